use Rattle.std.specs.Prelude.{length}
use Rattle.jr_table.specs.Entries.{entries_of}
use Rattle.jr_table.specs.Chains.{chain_of}
use Rattle.jr_table.specs.Wanted.{passes}
use Rattle.jr_dispatch.proofs.Climbing.{IsClimbed}
use Rattle.jr_dispatch.proofs.tops.highest.Given as goal

abbrev pub invariant-loop-parent : goal.invariant-loop-parent
invariant-loop-parent l = IsClimbed (entries_of l.table) (passes l.wanted) l.class l.at l.top

abbrev pub decreases-loop-parent : goal.decreases-loop-parent
decreases-loop-parent l = length (chain_of (entries_of l.table) l.at)
