-- The first element that passes a test.
use Rattle.std.proofs.Common.{◌≡◌, ℕ, zero, suc, List, [], ◌∷◌, Option, Some, None, Bool, true, false, cond, refl, sym, ap, subst, ◌∙◌, ◌<◌, ◌+◌, arith, map, inl, inr}
use Rattle.std.specs.Prelude.{slice_get, option_map, ◌⊎◌}
use Rattle.jr_table.specs.Firsts.{first_that}

-- an element that passes, at its number
pub record PassesAt {X : Type 0} (test : X → Bool) (xs : List X) (j : ℕ) : Type 0 where
  pub element : X
  pub stands : slice_get xs j ≡ Some element
  pub passes : test element ≡ true

module _ {X : Type 0} (test : X → Bool) where
  pub first_is : (xs : List X) (j : ℕ) → first_that test xs ≡ Some j → PassesAt test xs j
  first_is [] j h = absurd cc
  first_is (x ∷ xs) j h = by (test x) refl h (first_is xs)
    where
      later : (o : Option ℕ) → option_map suc o ≡ Some j → ((i : ℕ) → o ≡ Some i → PassesAt test xs i) → PassesAt test (x ∷ xs) j
      later None h more = absurd cc
      later (Some i) h more =
          let e : suc i ≡ j = cc in
          let p = more i refl in
          subst (PassesAt test (x ∷ xs)) e (record { element = p.element; stands = p.stands; passes = p.passes })

      by : (b : Bool) → test x ≡ b → cond b (Some 0) (option_map suc (first_that test xs)) ≡ Some j → ((i : ℕ) → first_that test xs ≡ Some i → PassesAt test xs i) → PassesAt test (x ∷ xs) j
      by true e h more = let n : 0 ≡ j = cc in subst (PassesAt test (x ∷ xs)) n (record { element = x; stands = refl; passes = e })
      by false e h more = later (first_that test xs) h more

  pub first_none : (xs : List X) → first_that test xs ≡ None → (j : ℕ) (r : X) → slice_get xs j ≡ Some r → test r ≡ false
  first_none [] h j r at = absurd cc
  first_none (x ∷ xs) h j r at = by (test x) refl h (first_none xs) j at
    where
      missing : (o : Option ℕ) → option_map suc o ≡ None → o ≡ None
      missing None h = refl
      missing (Some i) h = absurd cc

      by : (b : Bool) → test x ≡ b → cond b (Some 0) (option_map suc (first_that test xs)) ≡ None → (first_that test xs ≡ None → (j : ℕ) (r : X) → slice_get xs j ≡ Some r → test r ≡ false)
          → (j : ℕ) → slice_get (x ∷ xs) j ≡ Some r → test r ≡ false
      by true e h more j at = absurd cc
      by false e h more zero at = let same : x ≡ r = cc in ap test (sym same) ∙ e
      by false e h more (suc j) at = more (missing (first_that test xs) h) j r at

  -- the first that passes, from what is known of those before it
  pub first_at : (xs : List X) (n : ℕ) (r : X) → slice_get xs n ≡ Some r → test r ≡ true → ((j : ℕ) (x : X) → j < n → slice_get xs j ≡ Some x → test x ≡ false) → first_that test xs ≡ Some n
  first_at [] n r at h before = absurd cc
  first_at (x ∷ xs) zero r at h before = let same : x ≡ r = cc in ap (λ b. cond b (Some 0) (option_map suc (first_that test xs))) (ap test same ∙ h)
  first_at (x ∷ xs) (suc n) r at h before =
      ap (λ b. cond b (Some 0) (option_map suc (first_that test xs))) (before 0 x (omega arith) refl) ∙ ap (option_map suc) (first_at xs n r at h (λ j y lt. before (suc j) y (omega (arith, lt))))

  pub first_past : (xs : List X) → ((j : ℕ) (x : X) → slice_get xs j ≡ Some x → test x ≡ false) → first_that test xs ≡ None
  first_past [] all = refl
  first_past (x ∷ xs) all = ap (λ b. cond b (Some 0) (option_map suc (first_that test xs))) (all 0 x refl) ∙ ap (option_map suc) (first_past xs (λ j y. all (suc j) y))

  -- nothing passes among one more
  pub one_more : (xs : List X) (n : ℕ) (r : X) → slice_get xs n ≡ Some r → test r ≡ false → ((j : ℕ) (x : X) → j < n → slice_get xs j ≡ Some x → test x ≡ false)
      → (j : ℕ) (x : X) → j < n + 1 → slice_get xs j ≡ Some x → test x ≡ false
  one_more xs n r here h before j x lt at = by (split j n lt)
    where
      split : (a b : ℕ) → a < b + 1 → (a < b) ⊎ (a ≡ b)
      split a b h = grind arith

      by : ((j < n) ⊎ (j ≡ n)) → test x ≡ false
      by (inl less) = before j x less at
      by (inr is) = let e : Some r ≡ Some x = sym here ∙ ap (slice_get xs) (sym is) ∙ at in let same : r ≡ x = cc in ap test (sym same) ∙ h

pub first-map : {X Y : Type 0} (f : X → Y) (test : Y → Bool) (xs : List X) → first_that test (map f xs) ≡ first_that (λ x. test (f x)) xs
first-map f test [] = refl
first-map f test (x ∷ xs) = ap (λ o. cond (test (f x)) (Some 0) (option_map suc o)) (first-map f test xs)

pub get-map : {X Y : Type 0} (f : X → Y) (xs : List X) (j : ℕ) → slice_get (map f xs) j ≡ option_map f (slice_get xs j)
get-map f [] j = refl
get-map f (x ∷ xs) zero = refl
get-map f (x ∷ xs) (suc j) = get-map f xs j
