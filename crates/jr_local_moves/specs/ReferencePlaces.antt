-- Where the references of a member begin that are bound to a declaration.
use Rattle.std.specs.Prelude.{
  ◌≡◌,
  ℕ,
  ◌+◌,
  Bool,
  false,
  List,
  [],
  ◌∷◌,
  ◌++◌,
  Option,
  Some,
  None,
  slice_get,
  if◌then◌else◌,
}
use Rattle.jr_table.specs.Decls.{Decl}
use Rattle.jr_table.specs.SameDecls.{same_decl}
use Rattle.jr_bind.specs.Bounds.{Reference, decl_in}

-- the declaration is what is found
abbrev pub is_decl : Decl → Option Decl → Bool
is_decl d None = false
is_decl d (Some e) = same_decl e d

-- the byte of the place, if the declaration is found there
abbrev pub place_if : (start : ℕ) → Decl → (at : ℕ) → Option Decl → List ℕ
place_if start d at o = if is_decl d o then (start + at) ∷ [] else []

-- The bytes of the file, in the order of the references; the member begins at `start`, and all its
-- references are these.
abbrev pub places_of : (start : ℕ) → Decl → (all : List Reference) → List Reference → List ℕ
places_of start d all [] = []
places_of start d all (r ∷ rs) =
    place_if start d r.at (decl_in all r.at) ++ places_of start d all rs

-- What is bound to the declaration by its place is among them, and each of them is such a place.
pub record PlacesAreOf (start : ℕ) (d : Decl) (rs : List Reference) : Type 0 where
  pub all : (at : ℕ) → decl_in rs at ≡ Some d
      → (i : ℕ) × (slice_get (places_of start d rs rs) i ≡ Some (start + at))
  pub each : (i n : ℕ) → slice_get (places_of start d rs rs) i ≡ Some n
      → (at : ℕ) × (n ≡ start + at) × (decl_in rs at ≡ Some d)

abbrev pub ReferencesHavePlaces : Type 0
ReferencesHavePlaces = (start : ℕ) (d : Decl) (rs : List Reference) → PlacesAreOf start d rs
