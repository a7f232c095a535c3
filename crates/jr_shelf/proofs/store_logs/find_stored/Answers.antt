use Rattle.std.proofs.Common.{List, ℕ, length, sym, ap, ◌∙◌}
use Rattle.std.specs.List.{slice_range}
use Rattle.std.specs.Str.{bytes_eq}
use Rattle.std.specs.VecDeque.Iter.{deque_iter_rest}
use Rattle.jr_shelf.proofs.Pools.{rest_lie, found_first, found_later}
use Rattle.jr_shelf.proofs.store_logs.find_stored.Goals as goal

pub returns-then-eq : goal.returns-then-eq
returns-then-eq c =
    let left = deque_iter_rest c.loop-stored.stored-iterator in
    let rest = deque_iter_rest c.next.new.self in
    let stored = c.in-Some.stored.now in
    let tested = λ (name : List ℕ). bytes_eq name (slice_range c.args.pool.now stored.start stored.middle) in
    let same = ap tested (sym c.as_bytes.ensures.value) ∙ sym c.eq.ensures ∙ c.if-eq.true in
    sym (found_first c.args.name.now c.args.pool.now left rest stored _ c.loop-stored.invariant.left c.in-Some.ensures.steps same)

pub loop-stored-preserved : goal.loop-stored-preserved
loop-stored-preserved c =
    let left = deque_iter_rest c.loop-stored.stored-iterator in
    let rest = deque_iter_rest c.next.new.self in
    let stored = c.in-Some.stored.now in
    let tested = λ (name : List ℕ). bytes_eq name (slice_range c.args.pool.now stored.start stored.middle) in
    let other = ap tested (sym c.as_bytes.ensures.value) ∙ sym c.eq.ensures ∙ c.if-eq.false in
    record {
      lie = rest_lie (length c.args.pool.now) left rest stored c.loop-stored.invariant.lie c.in-Some.ensures.steps;
      left = found_later c.args.name.now c.args.pool.now left rest stored _ c.loop-stored.invariant.left c.in-Some.ensures.steps other;
    }
