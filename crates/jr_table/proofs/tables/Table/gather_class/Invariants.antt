use Rattle.std.specs.Prelude.{◌≡◌, true, List}
use Rattle.jr_table.specs.declared.entries.Kind.{Kind}
use Rattle.jr_table.specs.Entries.{entries_of}
use Rattle.jr_table.specs.Gathering.{is_met, Gathers}
use Rattle.jr_table.proofs.MemberWalk.{left}
use Rattle.jr_table.proofs.GatherWalk.{Met}
use Rattle.jr_table.proofs.tables.Table.gather_class.Given as goal

abbrev pub invariant-loop-next : goal.invariant-loop-next
invariant-loop-next l =
    Met (entries_of l.self) l.at l.name (is_met l.gathering.met) l.next
    × (Gathers (entries_of l.self) l.name l.class l.at (is_met l.fn.gathering.met) l.fn.gathering.numbers.items → Gathers (entries_of l.self) l.name l.class l.at (is_met l.gathering.met) l.gathering.numbers.items)

abbrev pub decreases-loop-next : goal.decreases-loop-next
decreases-loop-next l = left (entries_of l.self) l.next
