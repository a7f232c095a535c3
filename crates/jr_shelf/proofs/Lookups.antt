-- A search for a name, entry by entry.
use Rattle.std.proofs.Common.{◌≡◌, ℕ, ◌+◌, ◌<◌, true, false, cond, List, [], ◌∷◌, ◌++◌, Option, Some, None, String, Vec, string_bytes, length, drop, get_or, refl, sym, ap, ◌∙◌, add-one, drop-cons}
use Rattle.std.proofs.lemmas.Map.Text.{is_eq-slice_cmp}
use Rattle.std.specs.Ordering.{nat_cmp, is_eq}
use Rattle.std.specs.Cmp.Lexicographic.{slice_cmp, nat_list_cmp_total}
use Rattle.std.specs.FinMap.{find, get, from_entries, get-from_entries}
use Rattle.jr_shelf.specs.Files.{entries_of}
use Rattle.std.specs.Str.{bytes_eq}

-- the first entry has the name
pub find-first : (name : List ℕ) (entry : List ℕ × List ℕ) (rest : List (List ℕ × List ℕ)) → bytes_eq name entry.0 ≡ true → find (slice_cmp nat_cmp) name (entry ∷ rest) ≡ Some entry.1
find-first name entry rest same = ap (λ b. cond b (Some entry.1) (find (slice_cmp nat_cmp) name rest)) (is_eq-slice_cmp name entry.0 ∙ same)

-- the first entry has another name
pub find-later : (name : List ℕ) (entry : List ℕ × List ℕ) (rest : List (List ℕ × List ℕ)) → bytes_eq name entry.0 ≡ false → find (slice_cmp nat_cmp) name (entry ∷ rest) ≡ find (slice_cmp nat_cmp) name rest
find-later name entry rest other = ap (λ b. cond b (Some entry.1) (find (slice_cmp nat_cmp) name rest)) (is_eq-slice_cmp name entry.0 ∙ other)

-- where a file stands, the rest begins with it
rest_from : {Y Z : Type 0} → (files : List (String Y × Vec ℕ Z)) (i : ℕ) (file : String Y × Vec ℕ Z) → i < length files → file ≡ get_or files i file → drop i files ≡ file ∷ drop (i + 1) files
rest_from files i file within is = drop-cons files i file within ∙ (λ k. sym is k ∷ drop (sym (add-one i) k) files)

-- of the files that are left, the first is the one of the name
pub found_here : {Y Z : Type 0} → (name : List ℕ) (files : List (String Y × Vec ℕ Z)) (i : ℕ) (file : String Y × Vec ℕ Z) (answer : Option (List ℕ)) → i < length files → file ≡ get_or files i file
    → answer ≡ find (slice_cmp nat_cmp) name (entries_of (drop i files)) → bytes_eq name (string_bytes file.0) ≡ true → answer ≡ Some file.1.items
found_here name files i file answer within is found same =
    found ∙ ap (λ l. find (slice_cmp nat_cmp) name (entries_of l)) (rest_from files i file within is) ∙ find-first name (string_bytes file.0, file.1.items) (entries_of (drop (i + 1) files)) same

-- of the files that are left, the first has another name
pub found_further : {Y Z : Type 0} → (name : List ℕ) (files : List (String Y × Vec ℕ Z)) (i : ℕ) (file : String Y × Vec ℕ Z) (answer : Option (List ℕ)) → i < length files → file ≡ get_or files i file
    → answer ≡ find (slice_cmp nat_cmp) name (entries_of (drop i files)) → bytes_eq name (string_bytes file.0) ≡ false → answer ≡ find (slice_cmp nat_cmp) name (entries_of (drop (i + 1) files))
found_further name files i file answer within is found other =
    found ∙ ap (λ l. find (slice_cmp nat_cmp) name (entries_of l)) (rest_from files i file within is) ∙ find-later name (string_bytes file.0, file.1.items) (entries_of (drop (i + 1) files)) other

-- the first entry of the name in two lists, one after the other
pub find-append_found : (name : List ℕ) (first second : List (List ℕ × List ℕ)) (bytes : List ℕ) → find (slice_cmp nat_cmp) name first ≡ Some bytes → find (slice_cmp nat_cmp) name (first ++ second) ≡ Some bytes
find-append_found name [] second bytes found = cc
find-append_found name (entry ∷ rest) second bytes found =
    elim (is_eq (slice_cmp nat_cmp name entry.0)) as (λ same. cond same (Some entry.1) (find (slice_cmp nat_cmp) name rest) ≡ Some bytes → cond same (Some entry.1) (find (slice_cmp nat_cmp) name (rest ++ second)) ≡ Some bytes) [
      | true ↦ λ is. is
      | false ↦ λ is. find-append_found name rest second bytes is
    ] found

pub find-append_missed : (name : List ℕ) (first second : List (List ℕ × List ℕ)) → find (slice_cmp nat_cmp) name first ≡ None → find (slice_cmp nat_cmp) name (first ++ second) ≡ find (slice_cmp nat_cmp) name second
find-append_missed name [] second missed = refl
find-append_missed name (entry ∷ rest) second missed =
    elim (is_eq (slice_cmp nat_cmp name entry.0)) as (λ same. cond same (Some entry.1) (find (slice_cmp nat_cmp) name rest) ≡ None → cond same (Some entry.1) (find (slice_cmp nat_cmp) name (rest ++ second)) ≡ find (slice_cmp nat_cmp) name second) [
      | true ↦ λ is. cc
      | false ↦ λ is. find-append_missed name rest second is
    ] missed

-- what a map of such entries has at the name
pub get-found : (name : List ℕ) (first second : List (List ℕ × List ℕ)) (bytes : List ℕ) → find (slice_cmp nat_cmp) name first ≡ Some bytes → get (from_entries {R = slice_cmp nat_cmp} (first ++ second)) name ≡ Some bytes
get-found name first second bytes found = get-from_entries nat_list_cmp_total (first ++ second) name ∙ find-append_found name first second bytes found

pub get-missed : (name : List ℕ) (first second : List (List ℕ × List ℕ)) → find (slice_cmp nat_cmp) name first ≡ None
    → get (from_entries {R = slice_cmp nat_cmp} (first ++ second)) name ≡ find (slice_cmp nat_cmp) name second
get-missed name first second missed = get-from_entries nat_list_cmp_total (first ++ second) name ∙ find-append_missed name first second missed
