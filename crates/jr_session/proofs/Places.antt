-- What stands in a list where one element was written, and where one more was put behind it.
use Rattle.std.proofs.Common.{◌≡◌, ◌≢◌, ℕ, zero, suc, ◌+◌, ◌<◌, List, [], ◌∷◌, ◌++◌, set, length, take, refl, ap, ◌∙◌, arith}
use Rattle.std.specs.List.{slice_get}
use Rattle.std.specs.Prelude.{Some}
use Rattle.std.proofs.lemmas.Option.{none-some, same_Some}

pub written_at : {X : Type 0} (xs : List X) (n : ℕ) (y x : X) → slice_get (set xs n y) n ≡ Some x → y ≡ x
written_at [] n y x h = absurd (none-some x h)
written_at (z ∷ zs) zero y x h = same_Some y x h
written_at (z ∷ zs) (suc n) y x h = written_at zs n y x h

pub kept_at : {X : Type 0} (xs : List X) (n i : ℕ) (y : X) → i ≢ n → slice_get (set xs n y) i ≡ slice_get xs i
kept_at [] n i y other = refl
kept_at (z ∷ zs) zero zero y other = absurd (other refl)
kept_at (z ∷ zs) zero (suc i) y other = refl
kept_at (z ∷ zs) (suc n) zero y other = refl
kept_at (z ∷ zs) (suc n) (suc i) y other = kept_at zs n i y (λ e. other (ap suc e))

pub before_pushed : {X : Type 0} (xs : List X) (y : X) (i : ℕ) → i < length xs → slice_get (xs ++ y ∷ []) i ≡ slice_get xs i
before_pushed [] y i h = absurd (omega arith)
before_pushed (x ∷ xs) y zero h = refl
before_pushed (x ∷ xs) y (suc i) h = before_pushed xs y i (omega arith)

pub at_pushed : {X : Type 0} (xs : List X) (y : X) → slice_get (xs ++ y ∷ []) (length xs) ≡ Some y
at_pushed [] y = refl
at_pushed (x ∷ xs) y = at_pushed xs y

pub length-pushed : {X : Type 0} (xs : List X) (y : X) → length (xs ++ y ∷ []) ≡ length xs + 1
length-pushed [] y = refl
length-pushed (x ∷ xs) y = ap suc (length-pushed xs y) ∙ omega arith

taken_next : {X : Type 0} (xs : List X) (n : ℕ) (x : X) → slice_get xs n ≡ Some x → take (suc n) xs ≡ take n xs ++ x ∷ []
taken_next [] n x h = absurd (none-some x h)
taken_next (z ∷ zs) zero x h = ap (λ y. y ∷ []) (same_Some z x h)
taken_next (z ∷ zs) (suc n) x h = ap (λ ys. z ∷ ys) (taken_next zs n x h)

pub taken_more : {X : Type 0} (xs : List X) (n : ℕ) (x : X) → slice_get xs n ≡ Some x → take (n + 1) xs ≡ take n xs ++ x ∷ []
taken_more xs n x h = let e : n + 1 ≡ suc n = omega arith in ap (λ k. take k xs) e ∙ taken_next xs n x h
