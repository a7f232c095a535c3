-- Which neighbouring actions may change places, and what comes of a trace by such exchanges.
use Rattle.std.specs.Prelude.{◌≡◌, Bool, true, false, Option, Some, None}
use Rattle.jr_sync.specs.declared.kinds.Kind.{Kind}
use Rattle.jr_sync.specs.declared.kinds.Kind.TheVariants.{Load, Store, VolatileLoad, VolatileStore}
use Rattle.jr_sync.specs.declared.kinds.Kind.TheVariants.{Enter, Exit, Still}
use Rattle.jr_sync.specs.Grid.{is_allowed}
use Rattle.jr_plans.specs.Swaps.{Swaps}
use Rattle.jr_runs.specs.Keys.{Keys}
use Rattle.jr_runs.specs.Actions.{FieldKind, plain, volatile, final, Location, Action, load, store}
use Rattle.jr_runs.specs.Actions.{enter, exit, create, start, Trace}

abbrev pub load_kind : FieldKind → Kind
load_kind plain = Load
load_kind volatile = VolatileLoad
load_kind final = Still

abbrev pub store_kind : FieldKind → Kind
store_kind plain = Store
store_kind volatile = VolatileStore
store_kind final = Still

abbrev pub kind_of : {K : Keys} → Action K → Kind
kind_of (load kind from v) = load_kind kind
kind_of (store kind to v) = store_kind kind
kind_of (enter o) = Enter
kind_of (exit o) = Exit
kind_of (create o) = Still
kind_of (start o v) = Still

abbrev pub location_of : {K : Keys} → Action K → Option (Location K)
location_of (load kind from v) = Some from
location_of (store kind to v) = Some to
location_of (enter o) = None
location_of (exit o) = None
location_of (create o) = None
location_of (start o v) = None

abbrev pub stores : {K : Keys} → Action K → Bool
stores (load kind from v) = false
stores (store kind to v) = true
stores (enter o) = false
stores (exit o) = false
stores (create o) = false
stores (start o v) = false

-- The grid allows it for their kinds, in this order (`Still` never moves), and they are not two
-- accesses of one location of which one stores.
pub record Free {K : Keys} (first second : Action K) : Type 0 where
  pub allowed : is_allowed (kind_of first) (kind_of second) ≡ true
  pub apart : (at : Location K) → location_of first ≡ Some at → location_of second ≡ Some at
      → (stores first ≡ false) × (stores second ≡ false)

-- The second trace comes from the first by exchanges of free neighbours: from the old order to the
-- new one.
abbrev pub Reordered : {K : Keys} → Trace K → Trace K → Type 0
Reordered {K = K} u t = Swaps (Free {K = K}) u t
