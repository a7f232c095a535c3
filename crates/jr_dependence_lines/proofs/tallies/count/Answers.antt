use Rattle.std.proofs.Common.{refl, arith}
use Rattle.jr_dependence_lines.proofs.Counting.{puts_past}
use Rattle.jr_dependence_lines.proofs.tallies.count.Goals as goal

pub returns-in-Some : goal.returns-in-Some
returns-in-Some c texts is = let sum = c.in-Some.ensures.1 in puts_past c.args.tally.now _ texts c.requires refl (omega (arith, sum, is))
