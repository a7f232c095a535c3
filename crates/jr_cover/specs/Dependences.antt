-- When one site of a member depends on another.
use Rattle.std.specs.Prelude.{◌≡◌, ◌⊎◌, ℕ, true, false, List, ◌∷◌, ◌++◌, Option, Some, None}
use Rattle.jr_sync.specs.declared.kinds.Kind.{Kind}
use Rattle.jr_sync.specs.declared.kinds.Kind.TheVariants.{Enter, Exit, Still}
use Rattle.jr_sync.specs.declared.sites.DepKind.{DepKind}
use Rattle.jr_sync.specs.declared.sites.DepKind.TheVariants.{
  Order,
  Field,
  Sync,
  Flow,
  Anti,
  Output,
}
use Rattle.jr_sync.specs.Grid.{is_allowed}
use Rattle.jr_plans.specs.Numbered.{Numbered}
use Rattle.jr_runs.specs.Keys.{Keys}
use Rattle.jr_runs.specs.Actions.{Event, Action, Location}
use Rattle.jr_runs.specs.Rows.{Rows}
use Rattle.jr_runs.specs.Reordering.{load_kind, store_kind, kind_of, stores, location_of}
use Rattle.jr_cover.specs.Paths.{Path}
use Rattle.jr_cover.specs.Ways.{Way, sites_of, Edge}
use Rattle.jr_cover.specs.Sites.{
  What,
  reads,
  writes,
  loads,
  enters,
  exits,
  creates,
  checks,
  calls,
  loops,
  Site,
}
use Rattle.jr_cover.specs.Sites as sites
use Rattle.jr_cover.specs.Covering.{site_at, DoneAt, OfField, IsOutside}
use Rattle.jr_cover.specs.Crossing.{IsStore}

-- a path of at least one edge on which no stop stands strictly between
pub data PathBetween (E : ℕ → ℕ → Type 0) (Stops : ℕ → Type 0) : ℕ → ℕ → Type 0 where
  edge : (a b : ℕ) → E a b → PathBetween E Stops a b
  onward : (a b c : ℕ) → E a b → (Stops b → ⊥) → PathBetween E Stops b c → PathBetween E Stops a c

-- an access: its kind, and its field, if it has one
pub data Access (K : Keys) : Type 0 where
  access : (kind : Kind) (field : Option K.field) → Access K

abbrev pub access_of : {K : Keys} → Rows K → What K → Option (Access K)
access_of R (loads f) = Some (access (load_kind (R.field_kind f)) (Some f))
access_of R (sites.stores f) = Some (access (store_kind (R.field_kind f)) (Some f))
access_of R enters = Some (access Enter None)
access_of R exits = Some (access Exit None)
access_of R creates = Some (access Still None)
access_of R (reads n) = None
access_of R (writes n) = None
access_of R checks = None
access_of R calls = None
access_of R loops = None

-- what may throw, call or turn for ever
abbrev pub IsWild : {K : Keys} → What K → Type 0
IsWild checks = Unit {0}
IsWild calls = Unit {0}
IsWild loops = Unit {0}
IsWild w = ⊥

-- they are of one field, and one of them stores; an access of a final field counts as no store
abbrev pub OneField : {K : Keys} → Option (Access K) → Option (Access K) → Type 0
OneField {K = K} a b = (k l : Kind) × (f : K.field) × (a ≡ Some (access k (Some f)))
    × (b ≡ Some (access l (Some f))) × (IsStore k ⊎ IsStore l)

abbrev pub NotAllowed : {K : Keys} → Option (Access K) → Option (Access K) → Type 0
NotAllowed {K = K} a b = (k l : Kind) × (f g : Option K.field) × (a ≡ Some (access k f))
    × (b ≡ Some (access l g)) × (is_allowed k l ≡ false)

-- of two sites, the earlier first, where a path leads from the one to the other
abbrev pub Related : {K : Keys} → Rows K → DepKind → What K → What K → Type 0
Related {K = K} R Order a b = (IsWild a × IsWild b)
    ⊎ (IsWild a × ((x : Access K) × (access_of R b ≡ Some x)))
    ⊎ (((x : Access K) × (access_of R a ≡ Some x)) × IsWild b)
Related R Field a b = OneField (access_of R a) (access_of R b)
Related R Sync a b = NotAllowed (access_of R a) (access_of R b)
Related R Flow a b = (n : ℕ) × (a ≡ writes n) × (b ≡ reads n)
Related R Anti a b = (n : ℕ) × (a ≡ reads n) × (b ≡ writes n)
Related R Output a b = (n : ℕ) × (a ≡ writes n) × (b ≡ writes n)

-- where a local's value is overwritten, for a dependence of its kind
abbrev pub Stops : {K : Keys} → List (Site K) → DepKind → What K → ℕ → Type 0
Stops {K = K} all Flow (writes n) i = (p : K.place)
    × (site_at all i ≡ Some (record { at = p; what = writes n }))
Stops all kind a i = ⊥

abbrev pub Depends : {K : Keys} → Rows K → List (Site K) → (ℕ → ℕ → Type 0) → DepKind → (i j : ℕ)
    → Type 0
Depends {K = K} R all E kind i j = (a b : Site K) × (site_at all i ≡ Some a)
    × (site_at all j ≡ Some b)
    × Related R kind a.what b.what × PathBetween E (λ k. Stops all kind a.what k) i j

-- ---- what a reviewer may rely on

-- are they of one field, one of them storing?
abbrev pub OneFieldActions : {K : Keys} → Action K → Action K → Type 0
OneFieldActions {K = K} x y = (l m : Location K) × (f : K.field) × (location_of x ≡ Some l)
    × (location_of y ≡ Some m)
    × OfField l f × OfField m f × ((stores x ≡ true) ⊎ (stores y ≡ true))

-- Two actions of one activation that may not change places depend on one another: where the grid
-- doesn't allow it, and where they are of one field and one of them stores.
abbrev pub Cover : {K : Keys} → Rows K → (K.place → Type 0) → Way (Site K)
    → List (Numbered (Event K)) → Type 0
Cover {K = K} R Outside w trace =
    (t u v : List (Numbered (Event K))) (x y : Numbered (Event K)) → trace ≡ t ++ x ∷ (u ++ y ∷ v)
    → x.activation ≡ y.activation → (IsOutside K Outside x.action.at → ⊥)
    → (IsOutside K Outside y.action.at → ⊥)
    → (i : ℕ) × (j : ℕ) × (a : Site K) × (b : Site K)
    × (site_at (sites_of w) i ≡ Some a) × (site_at (sites_of w) j ≡ Some b)
    × DoneAt R a x.action × DoneAt R b y.action × Path (Edge 0 w) i j
    × (is_allowed (kind_of x.action.action) (kind_of y.action.action) ≡ false
    → Depends R (sites_of w) (Edge 0 w) Sync i j)
    × (OneFieldActions x.action.action y.action.action
    → Depends R (sites_of w) (Edge 0 w) Sync i j ⊎ Depends R (sites_of w) (Edge 0 w) Field i j)
