-- Dependences in order: by the first site, the second, the kind.
use Rattle.std.specs.Prelude.{◌≡◌, ◌⊎◌, ◌↔◌, ◌<◌, ℕ, List, ◌++◌, Contains, AllPairs}
use Rattle.jr_sync.specs.declared.sites.DepKind.{DepKind}
use Rattle.jr_sync.specs.declared.sites.DepKind.TheVariants.{Order, Field, Sync, Flow, Anti, Output}
use Rattle.jr_dependences.specs.declared.dependence.Dependence.{Dependence}

-- the order in which kinds are listed
abbrev pub rank : DepKind → ℕ
rank Order = 0
rank Field = 1
rank Sync = 2
rank Flow = 3
rank Anti = 4
rank Output = 5

abbrev pub IsBefore : Dependence → Dependence → Type 0
IsBefore d e = (d.first < e.first) ⊎ ((d.first ≡ e.first)
    × ((d.second < e.second) ⊎ ((d.second ≡ e.second) × (rank d.kind < rank e.kind))))

-- which dependences are in question: those on one site, those of sites below a second, those between
-- two, those of one kind
abbrev pub IsOn : (first : ℕ) → Dependence → Type 0
IsOn first d = d.first ≡ first

abbrev pub IsUpTo : (first second : ℕ) → Dependence → Type 0
IsUpTo first second d = (d.first ≡ first) × (d.second < second)

abbrev pub IsBetween : (first second : ℕ) → Dependence → Type 0
IsBetween first second d = (d.first ≡ first) × (d.second ≡ second)

abbrev pub IsOf : DepKind → (first second : ℕ) → Dependence → Type 0
IsOf kind first second d = (d.kind ≡ kind) × (d.first ≡ first) × (d.second ≡ second)

-- The list has exactly those that are in question and hold, in order.
pub record IsListed (InQuestion Holds : Dependence → Type 0) (list : List Dependence)
    : Type 0 where
  pub exact : (d : Dependence) → (Contains list d ↔ (InQuestion d × Holds d))
  pub ordered : AllPairs IsBefore list

-- They are put behind what was there.
pub record Adds (InQuestion Holds : Dependence → Type 0) (old new : List Dependence)
    : Type 0 where
  pub added : List Dependence
  pub is : new ≡ old ++ added
  pub listed : IsListed InQuestion Holds added
