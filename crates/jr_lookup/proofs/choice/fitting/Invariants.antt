use Rattle.std.proofs.Common.{◌≡◌, ◌++◌, length}
use Rattle.jr_table.specs.Entries.{entries_of}
use Rattle.jr_table.specs.Calls.{fitting}
use Rattle.jr_lookup.proofs.choice.fitting.Given as goal

abbrev pub invariant-loop-kept : goal.invariant-loop-kept
invariant-loop-kept l = l.kept.items ++ fitting (entries_of l.table) l.args l.rest ≡ fitting (entries_of l.table) l.args l.numbers

abbrev pub decreases-loop-kept : goal.decreases-loop-kept
decreases-loop-kept l = length l.rest
