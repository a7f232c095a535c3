use Rattle.std.proofs.Common.{◌≡◌, drop}
use Rattle.std.specs.Ordering.{nat_cmp}
use Rattle.std.specs.Cmp.Lexicographic.{slice_cmp}
use Rattle.std.specs.FinMap.{find}
use Rattle.jr_shelf.specs.Files.{entries_of}
use Rattle.jr_shelf.proofs.file_lists.find_file.Given as goal

-- the first file of the name is among those that are left
abbrev pub invariant-loop-file : goal.invariant-loop-file
invariant-loop-file l = find (slice_cmp nat_cmp) l.name (entries_of l.files) ≡ find (slice_cmp nat_cmp) l.name (entries_of (drop l.file-index l.files))
