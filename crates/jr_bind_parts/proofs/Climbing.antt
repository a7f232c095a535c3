-- One step upwards, in search of a method that another may not stand over.
use Rattle.std.proofs.Common.{◌≡◌, ℕ, suc, List, [], ◌∷◌, Option, Some, None, Bool, true, false, refl, sym, ap, ◌∙◌, inl, inr}
use Rattle.std.specs.Prelude.{◌||◌}
use Rattle.std.specs.List.{list_any}
use Rattle.jr_table.specs.declared.entries.Entry.{Entry}
use Rattle.jr_table.specs.Rows.{Row}
use Rattle.jr_table.specs.Entries.{entries_of}
use Rattle.jr_table.specs.Chains.{IsChain, IsAcyclic, GoesUp, Climbs, HasNoCycle, parent_of, chain_of, In}
use Rattle.jr_table.proofs.Chaining.{chain_step, chain_top}
use Rattle.jr_bind_parts.specs.OverrideClashes.{clashes_in, clashes_behind, clashes_above}

module _ (rows : List Row) (test : ℕ → Entry → Bool) (own : Row) (acyclic : IsAcyclic (entries_of rows)) where
  pub none_above : (c : ℕ) → parent_of (entries_of rows) c ≡ None → clashes_above rows test own c ≡ false
  unfolding clashes_above
  none_above c up = ap (clashes_behind rows test own) (chain_top (entries_of rows) acyclic c up)

  -- the superclass's, or those above it
  step_above : (c p : ℕ) → parent_of (entries_of rows) c ≡ Some p → clashes_above rows test own c ≡ (clashes_in rows test own p || clashes_above rows test own p)
  unfolding clashes_above
  step_above c p up = ap (clashes_behind rows test own) (chain_step (entries_of rows) acyclic c p up) ∙ of (chain_of (entries_of rows) p) (acyclic p)
    where
      of : (cs : List ℕ) → IsChain (entries_of rows) p cs → list_any (clashes_in rows test own) cs ≡ (clashes_in rows test own p || clashes_behind rows test own cs)
      of [] k = absurd k
      of (d ∷ ds) k = ap (λ x. clashes_in rows test own x || list_any (clashes_in rows test own) ds) (sym k.0)

  pub here_above : (c p : ℕ) → parent_of (entries_of rows) c ≡ Some p → clashes_in rows test own p ≡ true → clashes_above rows test own c ≡ true
  here_above c p up h = step_above c p up ∙ ap (λ b. b || clashes_above rows test own p) h

  pub next_above : (c p : ℕ) → parent_of (entries_of rows) c ≡ Some p → clashes_in rows test own p ≡ false → clashes_above rows test own c ≡ clashes_above rows test own p
  next_above c p up h = step_above c p up ∙ ap (λ b. b || clashes_above rows test own p) h

-- what stands in a chain is reached
climbs : (rows : List Entry) (cs : List ℕ) (c d : ℕ) → IsChain rows c cs → In cs d → (steps : ℕ) × Climbs rows steps c d
climbs rows [] c d k i = absurd i
climbs rows (x ∷ xs) c d k (inl e) = (0, k.0 ∙ e)
climbs rows (x ∷ xs) c d k (inr i) = up (parent_of rows c) refl k.1 (λ p h. climbs rows xs p d h i)
  where
    none : (ys : List ℕ) → ys ≡ [] → In ys d → ⊥
    none [] e i = absurd i
    none (y ∷ ys) e i = absurd cc

    up : (o : Option ℕ) → parent_of rows c ≡ o → GoesUp o xs (λ p. IsChain rows p xs) → ((p : ℕ) → IsChain rows p xs → (steps : ℕ) × Climbs rows steps p d) → (steps : ℕ) × Climbs rows steps c d
    up None e h more = absurd (none xs h i)
    up (Some p) e h more = let m = more p h in (suc m.0, (p, e, m.1))

-- no class stands above itself
pub never_again : (rows : List Entry) → HasNoCycle rows → (c x : ℕ) (xs : List ℕ) → IsChain rows c (x ∷ xs) → In xs c → ⊥
never_again rows no_cycle c x xs k i = up (parent_of rows c) refl k.1
  where
    none : (ys : List ℕ) → ys ≡ [] → In ys c → ⊥
    none [] e j = absurd j
    none (y ∷ ys) e j = absurd cc

    up : (o : Option ℕ) → parent_of rows c ≡ o → GoesUp o xs (λ p. IsChain rows p xs) → ⊥
    up None e h = none xs h i
    up (Some p) e h = let m = climbs rows xs p c h i in no_cycle c m.0 (p, e, m.1)
