use Rattle.std.proofs.Common.{List, ℕ, take, sym, subst}
use Rattle.std.proofs.lemmas.List.{take_all, take_more}
use Rattle.jr_flow.specs.Holding.{HoldsNumbers}
use Rattle.jr_flow.proofs.filling.put_numbers.Goals as goal

pub loop-number-preserved : goal.loop-number-preserved
loop-number-preserved c =
    let i = c.loop-number.number-index in
    let numbers = c.args.numbers.now in
    subst (λ (ns : List ℕ). HoldsNumbers c.args.width ns c.put_number.new.row) (sym (take_more numbers i 0 c.loop-number-test.true))
    (c.put_number.ensures (take i numbers) c.loop-number.invariant)

pub returns : goal.returns
returns c =
    subst (λ (ns : List ℕ). HoldsNumbers c.args.width ns c.loop-number.row)
    (take_all c.loop-number.number-index c.args.numbers.now c.loop-number-test.false) c.loop-number.invariant
