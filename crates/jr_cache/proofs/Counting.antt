-- An element of a list by the number of those before it that have its number.
use Rattle.std.proofs.Common.{◌≡◌, ℕ, zero, suc, List, [], ◌∷◌, map, Bool, true, false, refl, sym, ap, subst, ◌∙◌, arith, eq-eqb}
use Rattle.std.specs.Prelude.{◌==◌, filter, slice_get, Option, Some, None}
use Rattle.std.proofs.lemmas.Bool.{cond-true, cond-false}
use Rattle.std.proofs.lemmas.Option.{same_Some}

abbrev pub one_more : Bool → ℕ → ℕ
one_more true n = suc n
one_more false n = n

-- how many of the first are this number
abbrev pub count : (of i : ℕ) → List ℕ → ℕ
count of zero ns = 0
count of (suc i) [] = 0
count of (suc i) (n ∷ ns) = one_more (n == of) (count of i ns)

module _ {X : Type 0} (number : X → ℕ) (of : ℕ) where
  abbrev pub Of : X → Bool
  Of x = number x == of

  behind : (x y : X) (xs : List X) (i : ℕ) (b : Bool) → Of y ≡ b → slice_get (filter Of xs) (count of i (map number xs)) ≡ Some x
      → slice_get (filter Of (y ∷ xs)) (one_more (Of y) (count of i (map number xs))) ≡ Some x
  behind x y xs i true e h = (λ j. slice_get (cond-true (Of y) (y ∷ filter Of xs) (filter Of xs) e j) (one_more (e j) (count of i (map number xs)))) ∙ h
  behind x y xs i false e h = (λ j. slice_get (cond-false (Of y) (y ∷ filter Of xs) (filter Of xs) e j) (one_more (e j) (count of i (map number xs)))) ∙ h

  pub counted : (xs : List X) (i : ℕ) (x : X) → slice_get xs i ≡ Some x → number x ≡ of → slice_get (filter Of xs) (count of i (map number xs)) ≡ Some x
  counted [] i x s e = absurd cc
  counted (y ∷ xs) zero x s e =
      let same : y ≡ x = same_Some y x s in
      let test : Of y ≡ true = eq-eqb (number y) of (ap number same ∙ e) in
      ap (λ ys. slice_get ys 0) (cond-true (Of y) (y ∷ filter Of xs) (filter Of xs) test) ∙ s
  counted (y ∷ xs) (suc i) x s e = behind x y xs i (Of y) refl (counted xs i x s e)
