-- Two pieces of code, the one in front of the other, that may not change places, by their sites.
use Rattle.std.specs.Prelude.{◌≡◌, ◌⊎◌, ◌<◌, ℕ, List, slice_get, Option, Some, None}
use Rattle.jr_sync.specs.declared.sites.Site.{Site}
use Rattle.jr_sync.specs.declared.sites.DepKind.{DepKind}
use Rattle.jr_sync.specs.declared.sites.DepKind.TheVariants.{Order, Field, Sync, Flow, Anti, Output}
use Rattle.jr_sync.specs.declared.pieces.Test.{Test}
use Rattle.jr_sync.specs.declared.pieces.Test.TheVariants.{Wild, Accesses, Locals}
use Rattle.jr_sync.specs.Relations.{Related}

-- when fields are the same, and when locals are
module _ {K L : Type 0} (SameField : K → K → Type 0) (SameLocal : L → L → Type 0) where
  -- what each of the three tests finds
  abbrev pub Finds : Test → DepKind → (a b : Site K L) → Type 0
  Finds Wild kind a b = (kind ≡ Order) × Related SameField SameLocal Order a b
  Finds Accesses kind a b = ((kind ≡ Field) × Related SameField SameLocal Field a b)
      ⊎ ((kind ≡ Sync) × (Related SameField SameLocal Field a b → ⊥)
      × Related SameField SameLocal Sync a b)
  Finds Locals kind a b = ((kind ≡ Flow) × Related SameField SameLocal Flow a b)
      ⊎ ((kind ≡ Anti) × Related SameField SameLocal Anti a b)
      ⊎ ((kind ≡ Output) × Related SameField SameLocal Output a b)

  -- what a test answers of two sites
  abbrev pub IsFound : Test → Site K L → Site K L → Option DepKind → Type 0
  IsFound test a b None = (kind : DepKind) → Finds test kind a b → ⊥
  IsFound test a b (Some kind) = Finds test kind a b

  -- the first of the second piece's sites that a test finds beside a site
  abbrev pub IsFirstBeside : Test → Site K L → List (Site K L) → Option (ℕ × DepKind) → Type 0
  IsFirstBeside test a second None = (n : ℕ) (b : Site K L) (kind : DepKind)
      → slice_get second n ≡ Some b → Finds test kind a b → ⊥
  IsFirstBeside test a second (Some p) =
      ((b : Site K L) × (slice_get second p.0 ≡ Some b) × Finds test p.1 a b)
      × ((n : ℕ) (b : Site K L) (kind : DepKind) → n < p.0 → slice_get second n ≡ Some b
      → Finds test kind a b → ⊥)

  module _ (first second : List (Site K L)) where
    -- The test finds that kind at places of the two pieces.
    abbrev pub At : Test → (i j : ℕ) → DepKind → Type 0
    At test i j kind = (a b : Site K L) × (slice_get first i ≡ Some a)
        × (slice_get second j ≡ Some b) × Finds test kind a b

    abbrev pub Nowhere : Test → Type 0
    Nowhere test = (i j : ℕ) (kind : DepKind) → At test i j kind → ⊥

    -- the first pair, by its place in the first piece and then in the second
    abbrev pub FirstAt : Test → (i j : ℕ) → DepKind → Type 0
    FirstAt test i j kind = At test i j kind
        × ((m n : ℕ) (other : DepKind) → At test m n other
        → ((m < i) ⊎ ((m ≡ i) × (n < j))) → ⊥)

    abbrev pub IsFirstPair : Test → Option (ℕ × ℕ × DepKind) → Type 0
    IsFirstPair test None = Nowhere test
    IsFirstPair test (Some p) = FirstAt test p.0 p.1 p.2

    -- The pieces may change places.
    pub record Crosses : Type 0 where
      pub ordered : Nowhere Wild
      pub accesses : Nowhere Accesses
      pub locals : Nowhere Locals

    -- what `crossing` answers
    abbrev pub IsCrossing : Option (ℕ × ℕ × DepKind) → Type 0
    IsCrossing None = Crosses
    IsCrossing (Some p) = FirstAt Wild p.0 p.1 p.2
        ⊎ (Nowhere Wild × FirstAt Accesses p.0 p.1 p.2)
        ⊎ (Nowhere Wild × Nowhere Accesses × FirstAt Locals p.0 p.1 p.2)
