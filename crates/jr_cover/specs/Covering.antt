-- Actions of a member's code are done at its sites, and follow the edges between them.
use Rattle.std.specs.Prelude.{◌≡◌, ℕ, zero, suc, List, [], ◌∷◌, ◌++◌, Option, Some, None}
use Rattle.jr_plans.specs.Numbered.{Numbered}
use Rattle.jr_runs.specs.Keys.{Keys, At}
use Rattle.jr_runs.specs.Actions.{
  Location,
  part,
  shared,
  Action,
  load,
  store,
  enter,
  exit,
  create,
  Event,
}
use Rattle.jr_runs.specs.Rows.{Rows}
use Rattle.jr_cover.specs.Paths.{Path}
use Rattle.jr_cover.specs.Ways.{Way, sites_of, Edge}
use Rattle.jr_cover.specs.Sites.{What, loads, stores, enters, exits, creates, Site}

abbrev pub OfField : {K : Keys} → Location K → K.field → Type 0
OfField (part o g) f = g ≡ f
OfField (shared g) f = g ≡ f

-- the action is what is done there
abbrev pub Does : {K : Keys} → Rows K → What K → Action K → Type 0
Does R (loads f) (load kind from v) = (kind ≡ R.field_kind f) × OfField from f
Does R (stores f) (store kind to v) = (kind ≡ R.field_kind f) × OfField to f
Does R enters (enter o) = Unit {0}
Does R exits (exit o) = Unit {0}
Does R creates (create o) = Unit {0}
Does R w x = ⊥

abbrev pub DoneAt : {K : Keys} → Rows K → Site K → Event K → Type 0
DoneAt R s x = (x.at ≡ Some s.at) × Does R s.what x.action

-- what stands in another member, or nowhere in the text
abbrev pub IsOutside : (K : Keys) → (K.place → Type 0) → At K → Type 0
IsOutside K Outside None = Unit {0}
IsOutside K Outside (Some p) = Outside p

-- ---- the law

-- the site of a number
abbrev pub site_at : {S : Type 0} → List S → ℕ → Option S
site_at [] i = None
site_at (s ∷ l) zero = Some s
site_at (s ∷ l) (suc i) = site_at l i

-- Of each two events of one activation that stand in the member, the earlier one is done at a site
-- and the later one at another, or the same, to which a path of at least one edge leads.
abbrev pub FollowEdges : {K : Keys} → Rows K → (K.place → Type 0) → Way (Site K)
    → List (Numbered (Event K)) → Type 0
FollowEdges {K = K} R Outside w trace =
    (t u v : List (Numbered (Event K))) (x y : Numbered (Event K)) → trace ≡ t ++ x ∷ (u ++ y ∷ v)
    → x.activation ≡ y.activation → (IsOutside K Outside x.action.at → ⊥)
    → (IsOutside K Outside y.action.at → ⊥)
    → (i : ℕ) × (j : ℕ) × (a : Site K) × (b : Site K)
    × (site_at (sites_of w) i ≡ Some a) × (site_at (sites_of w) j ≡ Some b)
    × DoneAt R a x.action × DoneAt R b y.action × Path (Edge 0 w) i j
