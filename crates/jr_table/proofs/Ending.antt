-- A way upwards that doesn't end passes more classes than there are.
use Rattle.std.proofs.Common.{◌≡◌, ℕ, zero, suc, ◌<◌, List, [], ◌∷◌, length, Option, Some, None, Bool, true, false, refl, sym, ap, subst, inl, inr, arith, eqb, eqb-true}
use Rattle.std.specs.Prelude.{◌⊎◌, ◌||◌, slice_get, option_and_then}
use Rattle.std.specs.List.{list_any, IsDistinct, AllByRecursion}
use Rattle.std.proofs.lemmas.Option.{slice_get_within}
use Rattle.std.proofs.lemmas.Map.Steps.{length-le_from_distinct_below}
use Rattle.jr_table.specs.declared.entries.Entry.{Entry}
use Rattle.jr_table.specs.Spans.{ParentsStand}
use Rattle.jr_table.specs.Chains.{parent_of, IsChain, GoesUp, above, climb, chain_of, Climbs, HasNoCycle, IsAcyclic}

-- what is nowhere in a list is unlike each that is
none_is : (c : ℕ) (xs : List ℕ) → (list_any (eqb c) xs ≡ true → ⊥) → AllByRecursion (λ y. eqb c y ≡ false) xs
none_is c [] h = tt
none_is c (x ∷ xs) h = by (eqb c x) refl h (none_is c xs)
  where
    by : (b : Bool) → eqb c x ≡ b → ((b || list_any (eqb c) xs) ≡ true → ⊥) → ((list_any (eqb c) xs ≡ true → ⊥) → AllByRecursion (λ y. eqb c y ≡ false) xs) → (eqb c x ≡ false) × AllByRecursion (λ y. eqb c y ≡ false) xs
    by true e h more = absurd (h refl)
    by false e h more = (e, more h)

module _ (rows : List Entry) where
  -- a chain to the top, or as many classes as were asked for
  chain_or_long : (k c : ℕ) → IsChain rows c (climb k rows c) ⊎ (length (climb k rows c) ≡ k)
  chain_or_long zero c = inr refl
  chain_or_long (suc k) c = by (parent_of rows c) refl (chain_or_long k)
    where
      by : (o : Option ℕ) → parent_of rows c ≡ o → ((p : ℕ) → IsChain rows p (climb k rows p) ⊎ (length (climb k rows p) ≡ k))
          → IsChain rows c (c ∷ above (λ p. climb k rows p) o) ⊎ (length (c ∷ above (λ p. climb k rows p) o) ≡ suc k)
      by None e more = inl (refl, let P : Option ℕ → Type 0 = λ o. GoesUp o [] (λ p. IsChain rows p []) in subst P (sym e) refl)
      by (Some p) e more = from (more p)
        where
          from : (IsChain rows p (climb k rows p) ⊎ (length (climb k rows p) ≡ k)) → IsChain rows c (c ∷ climb k rows p) ⊎ (length (c ∷ climb k rows p) ≡ suc k)
          from (inl h) = inl (refl, let P : Option ℕ → Type 0 = λ o. GoesUp o (climb k rows p) (λ q. IsChain rows q (climb k rows p)) in subst P (sym e) h)
          from (inr h) = inr (ap suc h)

  -- what is passed is reached
  reached : (k c q : ℕ) → list_any (eqb q) (climb k rows c) ≡ true → (steps : ℕ) × Climbs rows steps c q
  reached zero c q h = absurd cc
  reached (suc k) c q h = by (eqb q c) refl h (parent_of rows c) refl (λ p. reached k p q)
    where
      later : (o : Option ℕ) → parent_of rows c ≡ o → list_any (eqb q) (above (λ p. climb k rows p) o) ≡ true → ((p : ℕ) → list_any (eqb q) (climb k rows p) ≡ true → (steps : ℕ) × Climbs rows steps p q) → (steps : ℕ) × Climbs rows steps c q
      later None e h more = absurd cc
      later (Some p) e h more = let m = more p h in (suc m.0, (p, e, m.1))

      by : (b : Bool) → eqb q c ≡ b → (b || list_any (eqb q) (above (λ p. climb k rows p) (parent_of rows c))) ≡ true → (o : Option ℕ) → parent_of rows c ≡ o
          → ((p : ℕ) → list_any (eqb q) (climb k rows p) ≡ true → (steps : ℕ) × Climbs rows steps p q) → (steps : ℕ) × Climbs rows steps c q
      by true e h o up more = (0, sym (eqb-true q c e))
      by false e h o up more = later (parent_of rows c) refl h more

  module _ (no_cycle : HasNoCycle rows) (stand : ParentsStand rows) where
    distinct : (k c : ℕ) → IsDistinct eqb (climb k rows c)
    unfolding IsDistinct
    distinct zero c = tt
    distinct (suc k) c = by (parent_of rows c) refl (distinct k)
      where
        by : (o : Option ℕ) → parent_of rows c ≡ o → ((p : ℕ) → IsDistinct eqb (climb k rows p)) → IsDistinct eqb (c ∷ above (λ p. climb k rows p) o)
        by None e more = (tt, tt)
        by (Some p) e more = (none_is c (climb k rows p) (λ h. let m = reached k p c h in no_cycle c m.0 (p, e, m.1)), more p)

    -- all that is passed has a row, if the first has
    below : (k c q : ℕ) → c < length rows → list_any (eqb q) (climb k rows c) ≡ true → q < length rows
    below k c q lt h = let m = reached k c q h in along m.0 c m.1 lt
      where
        along : (steps c : ℕ) → Climbs rows steps c q → c < length rows → q < length rows
        along zero c e lt = subst (λ (x : ℕ). x < length rows) e lt
        along (suc steps) c (p, e, more) lt = along steps p more (stand c p e)

    ends_within : (c : ℕ) → c < length rows → IsChain rows c (climb (suc (length rows)) rows c)
    ends_within c lt = by (chain_or_long (suc (length rows)) c)
      where
        by : (IsChain rows c (climb (suc (length rows)) rows c) ⊎ (length (climb (suc (length rows)) rows c) ≡ suc (length rows))) → IsChain rows c (climb (suc (length rows)) rows c)
        by (inl h) = h
        by (inr long) =
            let few = length-le_from_distinct_below (climb (suc (length rows)) rows c) (length rows) (distinct (suc (length rows)) c) (λ q. below (suc (length rows)) c q lt) in
            absurd (omega (arith, few, long))

    ends : (c : ℕ) → IsChain rows c (climb (suc (length rows)) rows c)
    ends c = by (parent_of rows c) refl
      where
        by : (o : Option ℕ) → parent_of rows c ≡ o → IsChain rows c (climb (suc (length rows)) rows c)
        by None e = (refl, let P : Option ℕ → Type 0 = λ o. GoesUp o (above (λ p. climb (length rows) rows p) o) (λ p. IsChain rows p (above (λ p. climb (length rows) rows p) o)) in subst P (sym e) refl)
        by (Some p) e = ends_within c (has_row (slice_get rows c) refl e)
          where
            has_row : (r : Option Entry) → slice_get rows c ≡ r → option_and_then (λ (x : Entry). x.parent) r ≡ Some p → c < length rows
            has_row None is h = absurd cc
            has_row (Some x) is h = slice_get_within rows c x is

    pub acyclic : IsAcyclic rows
    unfolding chain_of
    acyclic c = ends c
