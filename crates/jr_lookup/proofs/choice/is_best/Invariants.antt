use Rattle.std.proofs.Common.{◌≡◌, length}
use Rattle.jr_table.specs.Entries.{entries_of}
use Rattle.jr_table.specs.Choice.{is_best}
use Rattle.jr_table.specs.Calls.{as_specific}
use Rattle.jr_lookup.proofs.choice.is_best.Given as goal

abbrev pub invariant-loop-number : goal.invariant-loop-number
invariant-loop-number l = is_best (as_specific (entries_of l.table)) l.rest l.best ≡ is_best (as_specific (entries_of l.table)) l.numbers l.best

abbrev pub decreases-loop-number : goal.decreases-loop-number
decreases-loop-number l = length l.rest
