use Rattle.std.proofs.Common.{take}
use Rattle.jr_flow.specs.Holding.{HoldsNumbers}
use Rattle.jr_flow.proofs.filling.put_numbers.Given as goal

abbrev pub invariant-loop-number : goal.invariant-loop-number
invariant-loop-number l = HoldsNumbers l.width (take l.number-index l.numbers) l.row
