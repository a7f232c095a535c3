-- What a way upwards ever comes to, it comes to early: it can't pass more numbers than there are without passing one twice.
use Rattle.std.proofs.Common.{◌≡◌, ℕ, zero, suc, ◌+◌, ◌-◌, ◌<◌, ◌≤◌, List, [], ◌∷◌, length, Option, Some, None, Bool, true, false, refl, sym, ap, subst, ◌∙◌, inl, inr, arith, eqb, eqb-true}
use Rattle.std.specs.Prelude.{◌⊎◌, ◌||◌, slice_get, option_and_then}
use Rattle.std.specs.List.{list_any, IsDistinct, AllByRecursion}
use Rattle.std.proofs.lemmas.Map.Steps.{length-le_from_distinct_below}
use Rattle.jr_index.specs.Parents.{up, next, AreWithin}
use Rattle.jr_index.proofs.Returning.{up-add, up-rest}

-- a list is distinct, or has a number at two places
abbrev pub Repeats : List ℕ → Type 0
Repeats xs = (a : ℕ) × (b : ℕ) × (x : ℕ) × (a < b) × (slice_get xs a ≡ Some x) × (slice_get xs b ≡ Some x)

place_of : (x : ℕ) (xs : List ℕ) → list_any (eqb x) xs ≡ true → (i : ℕ) × (slice_get xs i ≡ Some x)
place_of x [] h = absurd cc
place_of x (y ∷ ys) h = by (eqb x y) refl h (place_of x ys)
  where
    by : (b : Bool) → eqb x y ≡ b → (b || list_any (eqb x) ys) ≡ true → (list_any (eqb x) ys ≡ true → (i : ℕ) × (slice_get ys i ≡ Some x)) → (i : ℕ) × (slice_get (y ∷ ys) i ≡ Some x)
    by true e h more = (0, ap Some (sym (eqb-true x y e)))
    by false e h more = let p = more h in (suc p.0, p.1)

none_is : (x : ℕ) (xs : List ℕ) → list_any (eqb x) xs ≡ false → AllByRecursion (λ y. eqb x y ≡ false) xs
none_is x [] h = tt
none_is x (y ∷ ys) h = by (eqb x y) refl h (none_is x ys)
  where
    by : (b : Bool) → eqb x y ≡ b → (b || list_any (eqb x) ys) ≡ false → (list_any (eqb x) ys ≡ false → AllByRecursion (λ y. eqb x y ≡ false) ys) → (eqb x y ≡ false) × AllByRecursion (λ y. eqb x y ≡ false) ys
    by true e h more = absurd cc
    by false e h more = (e, more h)

distinct_or : (xs : List ℕ) → IsDistinct eqb xs ⊎ Repeats xs
unfolding IsDistinct
distinct_or [] = inl tt
distinct_or (x ∷ xs) = by (list_any (eqb x) xs) refl (distinct_or xs)
  where
    by : (b : Bool) → list_any (eqb x) xs ≡ b → (IsDistinct eqb xs ⊎ Repeats xs) → IsDistinct eqb (x ∷ xs) ⊎ Repeats (x ∷ xs)
    by true e h = let p = place_of x xs e in inr (0, suc p.0, x, omega arith, refl, p.1)
    by false e (inl d) = inl (none_is x xs e, d)
    by false e (inr (a, b, y, lt, h, k)) = inr (suc a, suc b, y, omega (arith, lt), h, k)

-- so many numbers upwards, or as many as there are
abbrev above : (ℕ → List ℕ) → Option ℕ → List ℕ
above f None = []
above f (Some p) = f p

abbrev trail : ℕ → List (Option ℕ) → ℕ → List ℕ
trail zero parents j = []
trail (suc k) parents j = j ∷ above (trail k parents) (next parents j)

module _ (parents : List (Option ℕ)) where
  at_trail : (k i j x : ℕ) → slice_get (trail k parents j) i ≡ Some x → up i parents j ≡ Some x
  unfolding up
  at_trail zero i j x h = absurd cc
  at_trail (suc k) zero j x h = h
  at_trail (suc k) (suc i) j x h = by (next parents j) h (at_trail k i)
    where
      by : (o : Option ℕ) → slice_get (above (trail k parents) o) i ≡ Some x → ((p x : ℕ) → slice_get (trail k parents p) i ≡ Some x → up i parents p ≡ Some x) → option_and_then (up i parents) o ≡ Some x
      by None h more = absurd cc
      by (Some p) h more = more p x h

  long : (k j x : ℕ) → up k parents j ≡ Some x → length (trail (suc k) parents j) ≡ suc k
  unfolding up
  long zero j x h = by (next parents j)
    where
      by : (o : Option ℕ) → length (j ∷ above (trail 0 parents) o) ≡ 1
      by None = refl
      by (Some p) = refl
  long (suc k) j x h = by (next parents j) h (long k)
    where
      by : (o : Option ℕ) → option_and_then (up k parents) o ≡ Some x → ((p x : ℕ) → up k parents p ≡ Some x → length (trail (suc k) parents p) ≡ suc k) → length (j ∷ above (trail (suc k) parents) o) ≡ suc (suc k)
      by None h more = absurd cc
      by (Some p) h more = ap suc (more p x h)

  module _ (n : ℕ) (within : AreWithin parents n) where
    along : (i j x : ℕ) → j < n → up i parents j ≡ Some x → x < n
    unfolding up
    along zero j x lt h = let e : j ≡ x = cc in subst (λ (z : ℕ). z < n) e lt
    along (suc i) j x lt h = by (next parents j) refl h (along i)
      where
        by : (o : Option ℕ) → next parents j ≡ o → option_and_then (up i parents) o ≡ Some x → ((p x : ℕ) → p < n → up i parents p ≡ Some x → x < n) → x < n
        by None e h more = absurd cc
        by (Some p) e h more = more p x (within j p e) h

    defined : (a b j x : ℕ) → up (a + b) parents j ≡ Some x → (y : ℕ) × (up a parents j ≡ Some y)
    defined a b j x h = by (up a parents j) refl (sym (up-add parents a b j) ∙ h)
      where
        by : (o : Option ℕ) → up a parents j ≡ o → option_and_then (up b parents) o ≡ Some x → (y : ℕ) × (up a parents j ≡ Some y)
        by None e h = absurd cc
        by (Some y) e h = (y, e)

    -- a way that passes more than n numbers is as good as a shorter one
    shorter : (steps j x : ℕ) → j < n → n ≤ steps → up steps parents j ≡ Some x → (s : ℕ) × (s < steps) × (up s parents j ≡ Some x)
    shorter steps j x lt many h =
        let sum : n + (steps - n) ≡ steps = omega (arith, many) in
        let d = defined n (steps - n) j x (ap (λ k. up k parents j) sum ∙ h) in
        by (distinct_or (trail (suc n) parents j)) (long n j d.0 d.1)
      where
        by : (IsDistinct eqb (trail (suc n) parents j) ⊎ Repeats (trail (suc n) parents j)) → length (trail (suc n) parents j) ≡ suc n → (s : ℕ) × (s < steps) × (up s parents j ≡ Some x)
        by (inl distinct) size =
            let few = length-le_from_distinct_below (trail (suc n) parents j) n distinct (λ q e. let p = place_of q (trail (suc n) parents j) e in along p.0 j q lt (at_trail (suc n) p.0 j q p.1)) in
            absurd (omega (arith, few, size))
        by (inr (a, b, y, less, e, f)) size =
            let at_b = at_trail (suc n) b j y f in
            let at_a = at_trail (suc n) a j y e in
            let inside = within_list (trail (suc n) parents j) b y f in
            let sum : b + (steps - b) ≡ steps = omega (arith, inside, size, many) in
            let rest : up (steps - b) parents y ≡ Some x = sym (up-rest parents b (steps - b) j y at_b) ∙ ap (λ k. up k parents j) sum ∙ h in
            (a + (steps - b), omega (arith, less, inside, size, many), up-rest parents a (steps - b) j y at_a ∙ rest)
          where
            within_list : (xs : List ℕ) (i y : ℕ) → slice_get xs i ≡ Some y → i < length xs
            within_list [] i y h = absurd cc
            within_list (z ∷ zs) zero y h = omega arith
            within_list (z ∷ zs) (suc i) y h = let l = within_list zs i y h in omega (arith, l)

    early_by : (fuel steps j x : ℕ) → steps ≤ fuel → j < n → up steps parents j ≡ Some x → (s : ℕ) × (s < n) × (up s parents j ≡ Some x)
    early_by zero steps j x le lt h = (steps, omega (arith, le, lt), h)
    early_by (suc fuel) steps j x le lt h = by (order steps n) (early_by fuel)
      where
        order : (a b : ℕ) → (a < b) ⊎ (b ≤ a)
        order a b = grind arith

        by : ((steps < n) ⊎ (n ≤ steps)) → ((steps j x : ℕ) → steps ≤ fuel → j < n → up steps parents j ≡ Some x → (s : ℕ) × (s < n) × (up s parents j ≡ Some x)) → (s : ℕ) × (s < n) × (up s parents j ≡ Some x)
        by (inl less) more = (steps, less, h)
        by (inr many) more = let s = shorter steps j x lt many h in more s.0 j x (let l = s.1 in omega (arith, l, le)) lt s.2

    pub early : (steps j x : ℕ) → j < n → up steps parents j ≡ Some x → (s : ℕ) × (s < n) × (up s parents j ≡ Some x)
    early steps j x = early_by steps steps j x (omega arith)
