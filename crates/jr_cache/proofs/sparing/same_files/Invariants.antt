use Rattle.jr_members.specs.PartView.{written_of}
use Rattle.jr_cache.proofs.OneByOne.{AreSameTo}
use Rattle.jr_cache.proofs.sparing.same_files.Given as goal

abbrev pub invariant-loop-number : goal.invariant-loop-number
invariant-loop-number l = AreSameTo written_of l.written l.earlier l.number
