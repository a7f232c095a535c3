-- What depends along edges depends along the same edges that are said otherwise.
use Rattle.std.proofs.Common.{ℕ, List}
use Rattle.std.specs.Prelude.{◌↔◌}
use Rattle.jr_sync.specs.declared.sites.Site.{Site}
use Rattle.jr_sync.specs.declared.sites.DepKind.{DepKind}
use Rattle.jr_flow.specs.Paths.{PathBetween, edge, onward}
use Rattle.jr_dependences.specs.Depends.{DependsAlong}

module _ (E F : ℕ → ℕ → Type 0) (same : (i j : ℕ) → E i j → F i j) (Stops : ℕ → Type 0) where
  path_along : (i j : ℕ) → PathBetween E Stops i j → PathBetween F Stops i j
  path_along i j (edge a b e) = edge a b (same a b e)
  path_along i j (onward a b c e free p) = onward a b c (same a b e) free (path_along b c p)

module _ {K L : Type 0} (SameField : K → K → Type 0) (SameLocal : L → L → Type 0) (sites : List (Site K L)) where
  pub depends_along : (E F : ℕ → ℕ → Type 0) → ((i j : ℕ) → E i j ↔ F i j) → (kind : DepKind) (i j : ℕ) → (DependsAlong SameField SameLocal sites E kind i j ↔ DependsAlong SameField SameLocal sites F kind i j)
  depends_along E F same kind i j = (
    λ h. (h.0, h.1, h.2, h.3, h.4, path_along E F (λ a b e. (same a b).0 e) _ i j h.5),
    λ h. (h.0, h.1, h.2, h.3, h.4, path_along F E (λ a b e. (same a b).1 e) _ i j h.5),
  )
