use Rattle.std.proofs.Common.{[]}
use Rattle.jr_table.specs.Entries.{entries_of}
use Rattle.jr_table.specs.Calls.{is_ctor}
use Rattle.jr_table.specs.Gathering.{entry_named}
use Rattle.jr_table.proofs.MemberWalk.{left}
use Rattle.jr_table.proofs.CollectWalk.{Collected}
use Rattle.jr_table.proofs.tables.Table.ctors_in.Given as goal

abbrev pub invariant-loop-next : goal.invariant-loop-next
invariant-loop-next l = Collected (entry_named l.class []) (is_ctor (entries_of l.self) l.class) (entries_of l.self) l.numbers.items l.next

abbrev pub decreases-loop-next : goal.decreases-loop-next
decreases-loop-next l = left (entries_of l.self) l.next
