use Rattle.std.proofs.Common.{◌≡◌, length}
use Rattle.jr_shelf.specs.Files.{entries_of, names_differ}
use Rattle.jr_shelf.proofs.file_lists.names_differ.Given as goal

-- no name of a file before the rest stands twice
abbrev pub invariant-loop-file : goal.invariant-loop-file
invariant-loop-file l = names_differ (entries_of l.files) ≡ names_differ (entries_of l.rest)

abbrev pub decreases-loop-file : goal.decreases-loop-file
decreases-loop-file l = length l.rest
