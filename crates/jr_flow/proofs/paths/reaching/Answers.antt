use Rattle.std.proofs.Common.{◌≡◌, ℕ, List, length, sym, subst, arith}
use Rattle.std.proofs.lemmas.List.{with_items_is}
use Rattle.std.specs.Vec.{with_items}
use Rattle.jr_flow.specs.Holding.{HoldsEdges}
use Rattle.jr_flow.specs.Closure.{Closes}
use Rattle.jr_flow.proofs.Telling.{tells}
use Rattle.jr_flow.proofs.paths.reaching.Goals as goal

pub returns : goal.returns
returns c from to =
    let width = c.width_of-width.result in
    let edges = c.args.graph.now.edges.items in
    let steps = c.in_ok-steps.steps.items in
    let base = c.in_ok-words.words.items in
    let new = c.close.new.rows in
    let size : length new ≡ c.in_ok-words.words.len = omega arith in
    let rows = with_items c.in_ok-words.words new in
    let closes = subst (λ (ws : List ℕ). Closes width steps base ws) (sym (with_items_is c.in_ok-words.words new size))
    (subst (λ (ws : List ℕ). Closes width ws base new) c.deref-3.ensures.value (subst (λ (ws : List ℕ). Closes width c.deref-3.result.now ws new) c.deref_mut.ensures.value c.close.ensures)) in
    tells edges c.args.graph.now.size width c.args.graph.now.below c.width_of-width.ensures.width c.args.stops.now c.in_ok-none.none.items c.in_ok-shut.shut.items steps base rows.items
    c.in_ok-none.ensures.holds c.in_ok-shut.ensures.holds
    (subst (λ (ws : List ℕ). HoldsEdges width ws edges steps) c.deref.ensures.value c.in_ok-steps.ensures.holds)
    (subst (λ (ws : List ℕ). HoldsEdges width ws edges base) c.deref-2.ensures.value c.in_ok-words.ensures.holds)
    closes from to
