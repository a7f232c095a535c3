use Rattle.std.proofs.Common.{◌≡◌, ℕ, length, subst, arith}
use Rattle.jr_table.specs.Entries.{entries_of}
use Rattle.jr_dispatch.specs.Moves.{AreMoves}
use Rattle.jr_dispatch.proofs.Moving.{none_moved}
use Rattle.jr_dispatch.proofs.moves.moves.Goals as goal

pub loop-number-init : goal.loop-number-init
loop-number-init c = none_moved (entries_of c.args.old.now) (entries_of c.args.new.now) _

pub loop-number-preserved : goal.loop-number-preserved
loop-number-preserved c = c.in_ok-push_move.ensures c.loop-number.invariant

pub returns : goal.returns
returns c =
    let count = c.count-number-end.ensures in
    let past = c.loop-number-test.false in
    let most = c.loop-number.auto.number-end in
    let all : c.loop-number.number ≡ length c.args.old.now = omega (arith, count, past, most) in
    subst (λ (n : ℕ). AreMoves (entries_of c.args.old.now) (entries_of c.args.new.now) n c.loop-number.numbers.items) all c.loop-number.invariant
