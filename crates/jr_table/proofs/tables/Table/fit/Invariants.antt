use Rattle.std.proofs.Common.{◌≡◌, length}
use Rattle.jr_table.specs.Entries.{entries_of}
use Rattle.jr_table.specs.Calls.{fits}
use Rattle.jr_table.proofs.tables.Table.fit.Given as goal

abbrev pub invariant-loop-first : goal.invariant-loop-first
invariant-loop-first l = fits (entries_of l.self) l.types l.params ≡ fits (entries_of l.self) l.fn.types l.fn.params

abbrev pub decreases-loop-first : goal.decreases-loop-first
decreases-loop-first l = length l.types
