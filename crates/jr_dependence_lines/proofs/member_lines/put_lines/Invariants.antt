use Rattle.std.proofs.Common.{take}
use Rattle.jr_dependence_lines.specs.Tallies.{Puts, all_told}
use Rattle.jr_dependence_lines.proofs.member_lines.put_lines.Given as goal

abbrev pub invariant-loop-dependence : goal.invariant-loop-dependence
invariant-loop-dependence l = Puts l.initial.tally l.tally (all_told l.texts.head.now l.texts.places.now (take l.dependence-index l.list))
