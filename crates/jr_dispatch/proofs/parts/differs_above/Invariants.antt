use Rattle.std.specs.Prelude.{length}
use Rattle.jr_table.specs.Entries.{entries_of}
use Rattle.jr_table.specs.Chains.{chain_of}
use Rattle.jr_table.specs.Wanted.{passes}
use Rattle.jr_dispatch.proofs.Lows.{IsAsFar}
use Rattle.jr_dispatch.proofs.parts.differs_above.Given as goal

abbrev pub invariant-loop-class : goal.invariant-loop-class
invariant-loop-class l = IsAsFar (entries_of l.old) (entries_of l.new) (passes l.was) (passes l.now) l.class l.at

abbrev pub decreases-loop-class : goal.decreases-loop-class
decreases-loop-class l = length (chain_of (entries_of l.old) l.at)
