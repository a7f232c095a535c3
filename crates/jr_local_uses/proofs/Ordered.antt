-- A sort of numbers leaves the same ones, in their order.
use Rattle.std.proofs.Common.{◌≡◌, ℕ, ◌+◌, ◌<◌, ◌≤◌, ◌^◌, List, Some, All, get_or, ap, subst, ◌∙◌}
use Rattle.std.specs.Prelude.{slice_get, Contains, IsPermutation}
use Rattle.std.specs.List.Sorted.{IsNonDecreasingBy}
use Rattle.std.proofs.lemmas.Option.{slice_get_within, get_or_from_slice_get, slice_get-get_or}
use Rattle.std.proofs.lemmas.List.Sorted.{Contains-permutation, IsPermutation-sym}
use Rattle.std.proofs.lemmas.List.Elements.{All-get_or}
use Rattle.jr_local_search.specs.Namings.{Among}
use Rattle.jr_local_uses.specs.LocalPlaces.{AreInOrder}

contained : (xs : List ℕ) (n : ℕ) → Among xs n → Contains xs n
contained xs n (i, e) = (i, slice_get_within xs i n e, get_or_from_slice_get xs i n n e)

among : (xs : List ℕ) (n : ℕ) → Contains xs n → Among xs n
among xs n (i, lt, e) = (i, slice_get-get_or xs i n lt ∙ ap Some e)

pub sorted_is : (xs ys : List ℕ) → IsPermutation xs ys → IsNonDecreasingBy (λ (n : ℕ). n) ys → AreInOrder xs ys
sorted_is xs ys p up = record {
  same = λ n. (
    λ a. among xs n (Contains-permutation ys xs n (IsPermutation-sym xs ys p) (contained ys n a)),
    λ a. among ys n (Contains-permutation xs ys n p (contained xs n a)),
  );
  rise = λ i j x y le ex ey. subst (λ (n : ℕ). n ≤ y) (get_or_from_slice_get ys i x x ex) (subst (λ (n : ℕ). get_or ys i x ≤ n) (get_or_from_slice_get ys j y x ey) (up i j x le (slice_get_within ys j y ey)));
}

pub all_below : (size : ℕ) (xs : List ℕ) → All (λ (n : ℕ). n + size < 2 ^ 32) xs → (i n : ℕ) → slice_get xs i ≡ Some n → n + size < 2 ^ 32
all_below size xs h i n e =
    let at = All-get_or (λ (m : ℕ). m + size < 2 ^ 32) xs i n (slice_get_within xs i n e) h in
    subst (λ (m : ℕ). m + size < 2 ^ 32) (get_or_from_slice_get xs i n n e) at
