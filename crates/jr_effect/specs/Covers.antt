-- A list of dependences covers the runs of a member: of each two actions of one activation that may
-- not change places, the later one's site is listed with the earlier one's.
use Rattle.std.specs.Prelude.{◌≡◌, ◌⊎◌, ◌↔◌, ℕ, Bool, false, IsTrue, List, ◌∷◌, ◌++◌, map, Some}
use Rattle.std.specs.Prelude.{Contains}
use Rattle.jr_sync.specs.declared.sites.DepKind.TheVariants.{Field, Sync}
use Rattle.jr_sync.specs.Grid.{is_allowed}
use Rattle.jr_flow.specs.Edges.{EdgeOf}
use Rattle.jr_dependences.specs.declared.dependence.Dependence.{Dependence}
use Rattle.jr_dependences.specs.Depends.{DependsIn}
use Rattle.jr_plans.specs.Numbered.{Numbered}
use Rattle.jr_runs.specs.Keys.{Keys, keys_of}
use Rattle.jr_runs.specs.Values.{Value}
use Rattle.jr_runs.specs.Actions.{Event}
use Rattle.jr_runs.specs.Rows.{Rows}
use Rattle.jr_runs.specs.Reordering.{kind_of}
use Rattle.jr_runs.specs.Core.{Program}
use Rattle.jr_runs.specs.Running.{Start, run_of}
use Rattle.jr_cover.specs.Ways.{Way, sites_of, Edge}
use Rattle.jr_cover.specs.Sites.{Site, Known}
use Rattle.jr_cover.specs.Covering.{site_at, DoneAt, IsOutside}
use Rattle.jr_cover.specs.Dependences.{OneFieldActions}
use Rattle.jr_cover.specs.Members.{HasMember}
use Rattle.jr_cfg.specs.Seen.{seen}
use Rattle.jr_effect.specs.Plain.{Same}

abbrev pub CoversTrace : {K : Keys} → Rows K → (K.place → Type 0) → Way (Site K)
    → List Dependence → List (Numbered (Event K)) → Type 0
CoversTrace {K = K} R Outside w list trace =
    (t u v : List (Numbered (Event K))) (x y : Numbered (Event K)) → trace ≡ t ++ x ∷ (u ++ y ∷ v)
    → x.activation ≡ y.activation → (IsOutside K Outside x.action.at → ⊥)
    → (IsOutside K Outside y.action.at → ⊥)
    → (i : ℕ) × (j : ℕ) × (a : Site K) × (b : Site K)
    × (site_at (sites_of w) i ≡ Some a) × (site_at (sites_of w) j ≡ Some b)
    × DoneAt R a x.action × DoneAt R b y.action
    × (is_allowed (kind_of x.action.action) (kind_of y.action.action) ≡ false
    → Contains list (record { kind = Sync; first = i; second = j }))
    × (OneFieldActions x.action.action y.action.action
    → Contains list (record { kind = Sync; first = i; second = j })
    ⊎ Contains list (record { kind = Field; first = i; second = j }))

-- In each run of each program that has a member with these sites and edges, what the list has is
-- enough.
abbrev pub ListsCover : (C F M N L A G H : Type 0) → Type 0
ListsCover C F M N L A G H = (X : Known (keys_of C F M N L) A) (is_outside : L → Bool)
    (w : Way (Site (keys_of C F M N L))) (P : Program (keys_of C F M N L))
    → HasMember X (λ p. IsTrue (is_outside p)) P w
    → (key : F → G) (local : ℕ → H) → ((f g : F) → key f ≡ key g → f ≡ g)
    → ((m n : ℕ) → local m ≡ local n → m ≡ n)
    → (edges : List (ℕ × ℕ)) → ((i j : ℕ) → (EdgeOf edges i j ↔ Edge 0 w i j))
    → (list : List Dependence) → ((d : Dependence) → (Contains list d ↔ DependsIn Same Same
    (map (λ s. seen P.rows.field_kind key local s.what) (sites_of w)) edges d))
    → (c : Start (keys_of C F M N L)) (answers : List (Value (keys_of C F M N L))) (fuel : ℕ)
    → CoversTrace P.rows (λ p. IsTrue (is_outside p)) w list (run_of P c answers fuel).trace
