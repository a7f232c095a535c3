use Rattle.std.proofs.Common.{get_or}
use Rattle.jr_dependences.proofs.SumLaws.{SumsTo}
use Rattle.jr_dependences.proofs.summing.sums_of.Given as goal

abbrev pub invariant-loop-second : goal.invariant-loop-second
invariant-loop-second l = SumsTo l.site l.sites l.each l.lens l.second l.total l.sums.items
