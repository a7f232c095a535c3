use Rattle.std.proofs.Common.{◌≡◌, length}
use Rattle.jr_table.specs.Entries.{entries_of}
use Rattle.jr_table.specs.Choice.{winner}
use Rattle.jr_table.specs.Calls.{as_specific}
use Rattle.jr_lookup.proofs.choice.winner.Given as goal

abbrev pub invariant-loop-number : goal.invariant-loop-number
invariant-loop-number l = winner (as_specific (entries_of l.table)) l.best l.rest ≡ winner (as_specific (entries_of l.table)) l.first l.numbers

abbrev pub decreases-loop-number : goal.decreases-loop-number
decreases-loop-number l = length l.rest
