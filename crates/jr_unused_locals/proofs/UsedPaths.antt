-- From where a read comes, by paths: step by step both ways.
use Rattle.std.proofs.Common.{◌≡◌, ◌⊎◌, ℕ, Bool, true, false, refl, sym, ◌∙◌, inl, inr, ⊎_elim}
use Rattle.jr_cover.specs.Ways.{Way, Edge}
use Rattle.jr_cover.specs.Dependences as paths
use Rattle.jr_cover.specs.Dependences.{PathBetween}
use Rattle.jr_cover.proofs.Apart.{false_true}
use Rattle.jr_unused_locals.specs.Agreement.{Comes, reads_here, onward}
use Rattle.jr_unused_locals.specs.Unused.{ComesByPaths}

not_true : (b : Bool) → (b ≡ true → ⊥) → b ≡ false
not_true true h = absurd (h refl)
not_true false h = refl

pub not_both : (b : Bool) → b ≡ false → b ≡ true → ⊥
not_both b e d = false_true (sym e ∙ d)

module _ {S : Type 0} (reads writes : ℕ → Bool) (m : Way S) where
  abbrev Leads : ℕ → Type 0
  Leads j = (reads j ≡ true) ⊎ ((writes j ≡ false) × (k : ℕ) × PathBetween (Edge 0 m) (λ i. writes i ≡ true) j k × (reads k ≡ true))

  -- one edge more
  further : (j k : ℕ) → writes j ≡ false → Edge 0 m j k → Leads k → Leads j
  further j k w e (inl r) = inr (w, k, paths.edge j k e, r)
  further j k w e (inr h) = inr (w, h.1, paths.onward j k h.1 e (not_both (writes k) h.0) h.2, h.3)

  to_path : {j : ℕ} → Comes reads writes (Edge 0 m) j → Leads j
  to_path (reads_here j r) = inl r
  to_path (onward j k w e c) = further j k w e (to_path c)

  from_path : {j k : ℕ} → PathBetween (Edge 0 m) (λ i. writes i ≡ true) j k → writes j ≡ false → reads k ≡ true → Comes reads writes (Edge 0 m) j
  from_path (paths.edge a b e) w r = onward a b w e (reads_here b r)
  from_path (paths.onward a b c e n p) w r = onward a b w e (from_path p (not_true (writes b) n) r)

pub comes_by_paths : {S : Type 0} → ComesByPaths S
comes_by_paths reads writes m j = (λ c. to_path reads writes m c, λ h. ⊎_elim (λ r. reads_here j r) (λ x. from_path reads writes m x.2 x.0 x.3) h)
