-- What a plan answers that changes one file.
use Rattle.std.specs.Prelude.{
  ◌≡◌,
  ◌≢◌,
  ◌⊎◌,
  ℕ,
  nat_lt,
  Bool,
  List,
  [],
  length,
  Option,
  Some,
  None,
  slice_get,
  if◌then◌else◌,
}
use Rattle.jr_text.specs.Edits.{Entry}
use Rattle.jr_rewrite.specs.Respellings.{Loss}
use Rattle.jr_new_files.specs.Lost.{IsLeast}

-- of so many files this one has the edits, and the others have none
pub record AreFileEdits (count file : ℕ) (of : List Entry) (all : List (List Entry)) : Type 0
  where
    pub many : length all ≡ count
    pub own : slice_get all file ≡ Some of
    pub others : (n : ℕ) (es : List Entry) → n ≢ file → slice_get all n ≡ Some es → es ≡ []

-- exact: the edits of a file, by whether it is the one that changes
abbrev pub edits_if : Bool → List Entry → List Entry
edits_if is_changed of = if is_changed then of else []

-- ---- losses of one file

abbrev pub earlier_of : (kept other : Loss) → Loss
earlier_of kept other = if nat_lt other.at kept.at then other else kept

abbrev pub with_other : Loss → Option Loss → Loss
with_other kept None = kept
with_other kept (Some other) = earlier_of kept other

abbrev pub IsWithOther : (kept : List Loss) → (number : ℕ) → Option Loss → Loss → Type 0
IsWithOther kept number other x =
    (first : Loss) × (slice_get kept number ≡ Some first) × (x ≡ with_other first other)

-- The first kept one of the least place, or the other one, if that begins before it. In a file it
-- is the one that `jr_plan: IsFirstLost` names, where the other isn't kept.
abbrev pub IsFirst : (kept : List Loss) → (other : Option Loss) → Option Loss → Type 0
IsFirst kept other None = (kept ≡ []) × (other ≡ None)
IsFirst kept other (Some x) = ((kept ≡ []) × (other ≡ Some x))
    ⊎ ((number : ℕ) × (first : Loss) × IsLeast kept number first
    × (x ≡ with_other first other))
