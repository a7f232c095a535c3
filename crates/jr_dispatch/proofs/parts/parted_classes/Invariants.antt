use Rattle.jr_table.specs.Entries.{entries_of}
use Rattle.jr_dispatch.specs.Changes.{AreUnparted}
use Rattle.jr_dispatch.proofs.Rounds.{ArePartedBefore}
use Rattle.jr_dispatch.proofs.parts.parted_classes.Given as goal

-- those of the rows so far, and what is marked is parted from none
abbrev pub invariant-loop-number : goal.invariant-loop-number
invariant-loop-number l =
    ArePartedBefore (entries_of l.old) (entries_of l.new) l.number l.lows.items × AreUnparted (entries_of l.old) (entries_of l.new) l.marks.items
