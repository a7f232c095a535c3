-- What is found under keys, while a list grows and shrinks at its end.
use Rattle.std.proofs.Common.{◌≡◌, ℕ, zero, suc, List, [], ◌∷◌, ◌++◌, length, take, Option, Some, None, Bool, true, false, cond, refl, sym, ap, subst, ◌∙◌, inl, inr, arith}
use Rattle.std.proofs.lemmas.List.{take-append-le}
use Rattle.std.proofs.lemmas.Option.{slice_get_within}
use Rattle.std.proofs.Math.Seq.{take-append_seam}
use Rattle.std.specs.Prelude.{slice_get, ◌⊎◌}
use Rattle.jr_scopes.specs.Tracked.{last_place, FindsLast, KnowsEarlier}
use Rattle.jr_scopes.specs.Restoring.{restored}
use Rattle.jr_scopes.specs.Places.{passes_at}
use Rattle.jr_scopes.proofs.LastPlaces.{last_snoc, last_passes, last_some}

get_front : {X : Type 0} (xs : List X) (y : X) (i : ℕ) (x : X) → slice_get xs i ≡ Some x → slice_get (xs ++ y ∷ []) i ≡ Some x
get_front [] y i x h = absurd cc
get_front (z ∷ xs) y zero x h = h
get_front (z ∷ xs) y (suc i) x h = get_front xs y i x h

get_last : {X : Type 0} (xs : List X) (y : X) → slice_get (xs ++ y ∷ []) (length xs) ≡ Some y
get_last [] y = refl
get_last (x ∷ xs) y = get_last xs y

-- an element of a list with one more: of those before, or that one
front_or_last : {X : Type 0} (xs : List X) (y : X) (i : ℕ) (x : X) → slice_get (xs ++ y ∷ []) i ≡ Some x
    → ((slice_get xs i ≡ Some x) × (take i (xs ++ y ∷ []) ≡ take i xs)) ⊎ ((y ≡ x) × (take i (xs ++ y ∷ []) ≡ xs))
front_or_last [] y zero x h = inr (cc, refl)
front_or_last [] y (suc i) x h = absurd cc
front_or_last (z ∷ xs) y zero x h = inl (h, refl)
front_or_last (z ∷ xs) y (suc i) x h = by (front_or_last xs y i x h)
  where
    by : ((slice_get xs i ≡ Some x) × (take i (xs ++ y ∷ []) ≡ take i xs)) ⊎ ((y ≡ x) × (take i (xs ++ y ∷ []) ≡ xs))
        → ((slice_get xs i ≡ Some x) × (z ∷ take i (xs ++ y ∷ []) ≡ z ∷ take i xs)) ⊎ ((y ≡ x) × (z ∷ take i (xs ++ y ∷ []) ≡ z ∷ xs))
    by (inl p) = inl (p.0, ap (λ zs. z ∷ zs) p.1)
    by (inr p) = inr (p.0, ap (λ zs. z ∷ zs) p.1)

module _ {X : Type 0} {K : Type 0} (key : X → K) (same : K → K → Bool) where
  abbrev has : K → X → Bool
  has q x = same (key x) q

  module _ (found : K → Option ℕ) (xs : List X) (finds : FindsLast key same found xs) (q : K) where
    pub none_found : None ≡ found q → None ≡ last_place (has q) xs
    none_found h = by (last_place (has q) xs) refl
      where
        by : (o : Option ℕ) → last_place (has q) xs ≡ o → None ≡ o
        by None e = refl
        by (Some i) e = let f = h ∙ finds q i e in absurd cc

    pub here_found : (i : ℕ) → Some i ≡ found q → passes_at (has q) (slice_get xs i) ≡ true → Some i ≡ last_place (has q) xs
    here_found i h p = of (slice_get xs i) refl p
      where
        by : (x : X) → slice_get xs i ≡ Some x → same (key x) q ≡ true → (o : Option ℕ) → last_place (has q) xs ≡ o → Some i ≡ o
        by x at s None e = absurd (last_some (has q) xs i x at s e)
        by x at s (Some j) e = h ∙ finds q j e

        of : (o : Option X) → slice_get xs i ≡ o → passes_at (has q) o ≡ true → Some i ≡ last_place (has q) xs
        of None at s = absurd cc
        of (Some x) at s = by x at s (last_place (has q) xs) refl

    pub elsewhere_found : (i : ℕ) → Some i ≡ found q → passes_at (has q) (slice_get xs i) ≡ false → None ≡ last_place (has q) xs
    elsewhere_found i h p = by (last_place (has q) xs) refl
      where
        by : (o : Option ℕ) → last_place (has q) xs ≡ o → None ≡ o
        by None e = refl
        by (Some j) e =
            let f = h ∙ finds q j e in
            let s : i ≡ j = cc in
            let m = last_passes (has q) xs j e in
            let b : passes_at (has q) (slice_get xs j) ≡ true = ap (passes_at (has q)) m.1 ∙ m.2 in
            let c : passes_at (has q) (slice_get xs j) ≡ false = subst (λ n. passes_at (has q) (slice_get xs n) ≡ false) s p in
            absurd cc

  pub finds_none : (found : K → Option ℕ) → FindsLast key same found []
  finds_none found = λ q i h. absurd cc

  pub finds_push : (found found' : K → Option ℕ) (xs : List X) (y : X) (place : ℕ) → FindsLast key same found xs → place ≡ length xs
      → ((q : K) → found' q ≡ cond (same (key y) q) (Some place) (found q)) → FindsLast key same found' (xs ++ y ∷ [])
  finds_push found found' xs y place finds there put = λ q i h. by q i (same (key y) q) (put q) (sym (last_snoc (has q) xs y) ∙ h)
    where
      by : (q : K) (i : ℕ) (b : Bool) → found' q ≡ cond b (Some place) (found q) → cond b (Some (length xs)) (last_place (has q) xs) ≡ Some i → found' q ≡ Some i
      by q i true h k = h ∙ ap Some there ∙ k
      by q i false h k = h ∙ finds q i k

  module _ (before : X → Option ℕ) where
    pub earlier_push : (xs : List X) (y : X) → KnowsEarlier key same before xs → before y ≡ last_place (has (key y)) xs → KnowsEarlier key same before (xs ++ y ∷ [])
    earlier_push xs y earlier prior = λ i x at. of i x (front_or_last xs y i x at)
      where
        of : (i : ℕ) (x : X) → ((slice_get xs i ≡ Some x) × (take i (xs ++ y ∷ []) ≡ take i xs)) ⊎ ((y ≡ x) × (take i (xs ++ y ∷ []) ≡ xs)) → before x ≡ last_place (has (key x)) (take i (xs ++ y ∷ []))
        of i x (inl p) = earlier i x p.0 ∙ ap (last_place (has (key x))) (sym p.1)
        of i x (inr p) = subst (λ z. before z ≡ last_place (has (key z)) xs) p.0 prior ∙ ap (last_place (has (key x))) (sym p.1)

    pub earlier_pop : (xs : List X) (y : X) → KnowsEarlier key same before (xs ++ y ∷ []) → KnowsEarlier key same before xs
    earlier_pop xs y earlier = λ i x at.
        let lt = slice_get_within xs i x at in
        earlier i x (get_front xs y i x at) ∙ ap (last_place (has (key x))) (take-append-le i xs (y ∷ []) (omega (arith, lt)))

    pub finds_pop : (sound : (a b : K) → same a b ≡ true → a ≡ b) (found found' : K → Option ℕ) (xs : List X) (y : X) → FindsLast key same found (xs ++ y ∷ [])
        → KnowsEarlier key same before (xs ++ y ∷ []) → ((q : K) → found' q ≡ restored same found (key y) (before y) q) → FindsLast key same found' xs
    finds_pop sound found found' xs y finds earlier put = λ q i h. by q i h (before y) refl (same (key y) q) refl (put q)
      where
        prior : before y ≡ last_place (has (key y)) xs
        prior = earlier (length xs) y (get_last xs y) ∙ ap (last_place (has (key y))) (take-append_seam xs (y ∷ []))

        kept : (q : K) (i : ℕ) → same (key y) q ≡ false → last_place (has q) xs ≡ Some i → found q ≡ Some i
        kept q i s h = finds q i (last_snoc (has q) xs y ∙ ap (λ b. cond b (Some (length xs)) (last_place (has q) xs)) s ∙ h)

        own : (q : K) (i : ℕ) → same (key y) q ≡ true → last_place (has q) xs ≡ Some i → before y ≡ Some i
        own q i s h = prior ∙ ap (λ k. last_place (has k) xs) (sound (key y) q s) ∙ h

        by : (q : K) (i : ℕ) → last_place (has q) xs ≡ Some i → (o : Option ℕ) → before y ≡ o → (b : Bool) → same (key y) q ≡ b → found' q ≡ restored same found (key y) o q → found' q ≡ Some i
        by q i h None e true s p = let f = sym e ∙ own q i s h in absurd cc
        by q i h None e false s p = p ∙ kept q i s h
        by q i h (Some j) e true s p = p ∙ ap (λ b. cond b (Some j) (found q)) s ∙ sym e ∙ own q i s h
        by q i h (Some j) e false s p = p ∙ ap (λ b. cond b (Some j) (found q)) s ∙ kept q i s h
