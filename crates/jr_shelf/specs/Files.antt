-- Files as lists of names and bytes.
use Rattle.std.specs.Prelude.{ℕ, ◌&&◌, Bool, true, List, [], ◌∷◌, String, Vec, map, is_none}
use Rattle.std.specs.Prelude.{string_bytes}
use Rattle.std.specs.Ordering.{nat_cmp}
use Rattle.std.specs.Cmp.Lexicographic.{slice_cmp}
use Rattle.std.specs.FinMap.{find}

-- the name and the bytes of each file
abbrev pub entries_of : {Y Z : Type 0} → List (String Y × Vec ℕ Z) → List (List ℕ × List ℕ)
entries_of files = map (λ file. (string_bytes file.0, file.1.items)) files

-- whether no name stands twice: none is found among those after it
abbrev pub names_differ : List (List ℕ × List ℕ) → Bool
names_differ [] = true
names_differ (entry ∷ rest) = is_none (find (slice_cmp nat_cmp) entry.0 rest) && names_differ rest
