-- What is known of paths from a first site.
use Rattle.std.specs.Prelude.{◌≡◌, ℕ, Bool, true, false, List, slice_get, Option, Some, None}
use Rattle.jr_sync.specs.declared.sites.Site.{Site}
use Rattle.jr_sync.specs.declared.sites.Site.TheVariants.{Read, Write, Access, Check, Call, Loop}
use Rattle.jr_sync.specs.declared.sites.DepKind.{DepKind}
use Rattle.jr_sync.specs.declared.sites.DepKind.TheVariants.{Order, Field, Sync, Flow, Anti, Output}
use Rattle.jr_sync.specs.Relations.{Related}
use Rattle.jr_flow.specs.declared.reach.Reach.{Reach}
use Rattle.jr_flow.specs.declared.reached.Reached.{Reached}
use Rattle.jr_flow.specs.Edges.{EdgeOf}
use Rattle.jr_flow.specs.Nodes.{IsReached, TellsNodes}
use Rattle.jr_flow.specs.Pairs.{Tells}
use Rattle.jr_flow.specs.Paths.{Path, PathBetween}
use Rattle.jr_dependences.specs.Depends.{WritesAgain}

-- it reads or writes a local
abbrev pub is_local : {K L : Type 0} → Site K L → Bool
is_local (Read l) = true
is_local (Write l) = true
is_local (Access kind f) = false
is_local Check = false
is_local Call = false
is_local Loop = false

-- For Flow the first site's own search is asked, if what it writes is read; for other kinds it is
-- enough that a path leads there.
abbrev pub LeadsFlow : Option Reached → (second : ℕ) → Type 0
LeadsFlow None second = ⊥
LeadsFlow (Some reached) second = IsReached reached second

abbrev pub Gives : Option Reached → DepKind → (second : ℕ) → Type 0
Gives flow Flow second = LeadsFlow flow second
Gives flow Order second = Unit {0}
Gives flow Field second = Unit {0}
Gives flow Sync second = Unit {0}
Gives flow Anti second = Unit {0}
Gives flow Output second = Unit {0}

module _ {K L : Type 0} (SameField : K → K → Type 0) (SameLocal : L → L → Type 0)
    (sites : List (Site K L)) where
  -- one of the sites reads what this one writes
  abbrev pub IsReadIn : Site K L → Type 0
  IsReadIn a = (n : ℕ) × (b : Site K L) × (slice_get sites n ≡ Some b)
      × Related SameField SameLocal Flow a b

module _ {K L : Type 0} (SameField : K → K → Type 0) (SameLocal : L → L → Type 0)
    (sites : List (Site K L)) (edges : List (ℕ × ℕ)) (first : ℕ) where
  -- what is known of the first site for Flow: nothing where nothing reads what it writes
  abbrev pub TellsFlow : Option Reached → Type 0
  TellsFlow None = (a : Site K L) → slice_get sites first ≡ Some a
      → IsReadIn SameField SameLocal sites a → ⊥
  TellsFlow (Some reached) = (a : Site K L) → slice_get sites first ≡ Some a
      → TellsNodes (PathBetween (EdgeOf edges) (WritesAgain SameField SameLocal sites a) first)
      reached

  pub record KnowsPaths (reach : Reach) (flow : Option Reached) : Type 0 where
    pub paths : Tells (Path (EdgeOf edges)) reach
    pub flows : TellsFlow flow
