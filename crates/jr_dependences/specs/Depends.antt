-- When one site of a member depends on another: what the two are, and a path from the one to the
-- other.
use Rattle.std.specs.Prelude.{◌≡◌, ℕ, List, slice_get, Some}
use Rattle.jr_sync.specs.declared.sites.Site.{Site}
use Rattle.jr_sync.specs.declared.sites.DepKind.{DepKind}
use Rattle.jr_sync.specs.declared.sites.DepKind.TheVariants.{Order, Field, Sync, Flow, Anti, Output}
use Rattle.jr_sync.specs.Relations.{Related}
use Rattle.jr_dependences.specs.declared.dependence.Dependence.{Dependence}
use Rattle.jr_flow.specs.Edges.{EdgeOf}
use Rattle.jr_flow.specs.Paths.{PathBetween}

-- when fields are the same, and when locals are
module _ {K L : Type 0} (SameField : K → K → Type 0) (SameLocal : L → L → Type 0)
    (sites : List (Site K L)) where
  -- the site of this number writes the local that a site writes
  abbrev pub WritesAgain : (a : Site K L) → (number : ℕ) → Type 0
  WritesAgain a number = (s : Site K L) × (slice_get sites number ≡ Some s)
      × Related SameField SameLocal Output a s

  -- Of a write that is read, the value may not be overwritten between; of other kinds it doesn't
  -- matter what stands between.
  abbrev pub Stops : DepKind → (a : Site K L) → ℕ → Type 0
  Stops Flow a n = WritesAgain a n
  Stops Order a n = ⊥
  Stops Field a n = ⊥
  Stops Sync a n = ⊥
  Stops Anti a n = ⊥
  Stops Output a n = ⊥

  -- E: which site can be met directly behind which
  abbrev pub DependsAlong : (E : ℕ → ℕ → Type 0) → DepKind → (first second : ℕ) → Type 0
  DependsAlong E kind first second = (a b : Site K L) × (slice_get sites first ≡ Some a)
      × (slice_get sites second ≡ Some b) × Related SameField SameLocal kind a b
      × PathBetween E (Stops kind a) first second

  abbrev pub Depends : (edges : List (ℕ × ℕ)) → DepKind → (first second : ℕ) → Type 0
  Depends edges kind first second = DependsAlong (EdgeOf edges) kind first second

  abbrev pub DependsIn : (edges : List (ℕ × ℕ)) → Dependence → Type 0
  DependsIn edges d = Depends edges d.kind d.first d.second
