use Rattle.std.specs.Prelude.{length}
use Rattle.jr_table.specs.Entries.{entries_of}
use Rattle.jr_table.specs.Chains.{chain_of}
use Rattle.jr_table.specs.Wanted.{passes}
use Rattle.jr_dispatch.specs.Changes.{AreUnparted, DiffersAbove}
use Rattle.jr_dispatch.proofs.parts.mark_above.Given as goal

-- nothing differs from here upwards, and what is marked is parted from none
abbrev pub invariant-loop-row : goal.invariant-loop-row
invariant-loop-row l =
    AreUnparted (entries_of l.old) (entries_of l.new) l.marks.items
    × (DiffersAbove (entries_of l.old) (entries_of l.new) (passes l.was) (passes l.now) l.at → ⊥)

abbrev pub decreases-loop-row : goal.decreases-loop-row
decreases-loop-row l = length (chain_of (entries_of l.old) l.at)
