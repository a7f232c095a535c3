-- A loop that tests each of a list and ends at the first that fails.
use Rattle.std.proofs.Common.{◌≡◌, ℕ, ◌+◌, ◌<◌, ◌≤◌, List, [], ◌∷◌, Bool, true, false, length, get_or, drop, ap, sym, ◌∙◌, suc, add-one}
use Rattle.std.specs.Prelude.{◌&&◌}
use Rattle.std.proofs.Math.Seq.{drop-cons}
use Rattle.std.proofs.lemmas.List.{drop_all}

left_is : {T : Type 0} (xs : List T) (i : ℕ) (x : T) → i < length xs → x ≡ get_or xs i x → drop i xs ≡ x ∷ drop (i + 1) xs
left_is xs i x lt is = drop-cons xs i x lt ∙ ap (λ z. z ∷ drop (suc i) xs) (sym is) ∙ ap (λ n. x ∷ drop n xs) (sym (add-one i))

fails : (b here rest whole : Bool) → b ≡ here → b ≡ false → whole ≡ (here && rest) → whole ≡ false
fails true here rest whole e n w = absurd cc
fails false here rest whole e n w = w ∙ ap (λ h. h && rest) (sym e)

passes : (b here rest whole : Bool) → b ≡ here → b ≡ true → whole ≡ (here && rest) → whole ≡ rest
passes true here rest whole e n w = w ∙ ap (λ h. h && rest) (sym e)
passes false here rest whole e n w = absurd cc

module _ {X : Type 0} (test : X → Bool) (all : List X → Bool) (none : all [] ≡ true) (more : (x : X) (xs : List X) → all (x ∷ xs) ≡ (test x && all xs)) where
  here_is : (xs : List X) (i : ℕ) (x : X) → i < length xs → x ≡ get_or xs i x → all (drop i xs) ≡ all xs → all xs ≡ (test x && all (drop (i + 1) xs))
  here_is xs i x lt is left = sym left ∙ ap all (left_is xs i x lt is) ∙ more x (drop (i + 1) xs)

  pub all_fails : (xs : List X) (i : ℕ) (x : X) (b : Bool) → i < length xs → x ≡ get_or xs i x → b ≡ test x → b ≡ false → all (drop i xs) ≡ all xs → false ≡ all xs
  all_fails xs i x b lt is e n left = sym (fails b (test x) (all (drop (i + 1) xs)) (all xs) e n (here_is xs i x lt is left))

  pub all_goes : (xs : List X) (i : ℕ) (x : X) (b : Bool) → i < length xs → x ≡ get_or xs i x → b ≡ test x → b ≡ true → all (drop i xs) ≡ all xs → all (drop (i + 1) xs) ≡ all xs
  all_goes xs i x b lt is e n left = sym (passes b (test x) (all (drop (i + 1) xs)) (all xs) e n (here_is xs i x lt is left))

  pub all_ends : (xs : List X) (i : ℕ) → length xs ≤ i → all (drop i xs) ≡ all xs → true ≡ all xs
  all_ends xs i past left = sym none ∙ sym (ap all (drop_all i xs past)) ∙ left
