use Rattle.std.proofs.Common.{◌≡◌, ◌++◌, length}
use Rattle.std.specs.Prelude.{filter}
use Rattle.jr_table.specs.Entries.{entries_of}
use Rattle.jr_table.specs.Access.{is_accessible}
use Rattle.jr_lookup.proofs.choice.accessible.Given as goal

abbrev pub invariant-loop-kept : goal.invariant-loop-kept
invariant-loop-kept l = l.kept.items ++ filter (is_accessible (entries_of l.table) l.place) l.rest ≡ filter (is_accessible (entries_of l.table) l.place) l.numbers

abbrev pub decreases-loop-kept : goal.decreases-loop-kept
decreases-loop-kept l = length l.rest
