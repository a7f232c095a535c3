use Rattle.std.proofs.Common.{take}
use Rattle.jr_sources.specs.Broken.{SomeErrs, IsFirstOfAll}
use Rattle.jr_sources.proofs.broken.first_broken.Given as goal

abbrev pub invariant-loop-member : goal.invariant-loop-member
invariant-loop-member l = IsFirstOfAll (SomeErrs (take l.member-index l.members)) l.best
