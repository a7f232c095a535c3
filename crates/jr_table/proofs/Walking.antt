-- The first element that passes, from some number on.
use Rattle.std.proofs.Common.{◌≡◌, ℕ, suc, ◌<◌, ◌≤◌, List, [], ◌∷◌, map, length, Option, Some, None, Bool, true, false, refl, sym, ap, subst, ◌∙◌, inl, inr, arith}
use Rattle.std.specs.Prelude.{slice_get, option_map}
use Rattle.std.proofs.lemmas.Option.{slice_get_within}
use Rattle.jr_index.specs.Linked.{NoneBetween, PassesAt, IsFirstFrom, AreOwned}
use Rattle.jr_table.specs.Firsts.{first_that}
use Rattle.jr_table.proofs.FirstLaws.{first_at, first_past, get-map}

pub from_start : {X : Type 0} (test : X → Bool) (xs : List X) (o : Option ℕ) → IsFirstFrom test xs 0 o → first_that test xs ≡ o
from_start test xs None none = first_past test xs (λ j x at. none j x (omega arith) (slice_get_within xs j x at) at)
from_start test xs (Some j) first = first_at test xs j first.1.element first.1.stands first.1.passes (λ k x lt at. first.2 k x (omega arith) lt at)

pub as_long : {X Y : Type 0} (f : X → Y) (xs : List X) → length (map f xs) ≡ length xs
as_long f [] = refl
as_long f (x ∷ xs) = let e = as_long f xs in omega (arith, e)

module _ {X Y : Type 0} (f : X → Y) (xs : List X) where
  pub record Stands (y : Y) (j : ℕ) : Type 0 where
    pub element : X
    pub stands : slice_get xs j ≡ Some element
    pub is : f element ≡ y

  pub stands_below : (j : ℕ) (y : Y) → slice_get (map f xs) j ≡ Some y → Stands y j
  stands_below j y h = by (slice_get xs j) refl (sym (get-map f xs j) ∙ h)
    where
      by : (o : Option X) → slice_get xs j ≡ o → option_map f o ≡ Some y → Stands y j
      by None e h = absurd cc
      by (Some x) e h = record { element = x; stands = e; is = let s : f x ≡ y = cc in s }

  none_below : (test : Y → Bool) (i j : ℕ) → NoneBetween test (map f xs) i j → NoneBetween (λ x. test (f x)) xs i j
  none_below test i j none k x le lt at = none k (f x) le lt (get-map f xs k ∙ ap (option_map f) at)

  pub from_map : (test : Y → Bool) (i : ℕ) (o : Option ℕ) → IsFirstFrom test (map f xs) i o → IsFirstFrom (λ x. test (f x)) xs i o
  from_map test i None none = none_below test i (length xs) (subst (λ n. NoneBetween test (map f xs) i n) (as_long f xs) none)
  from_map test i (Some j) first =
      let s = stands_below j first.1.element first.1.stands in
      (first.0, record { element = s.element; stands = s.stands; passes = ap test s.is ∙ first.1.passes }, none_below test i j first.2)

pub owned_map : {X : Type 0} (f : X → Option ℕ × List ℕ) (most : ℕ) (xs : List X) → ((x : X) (c : ℕ) → (f x).0 ≡ Some c → c < most) → AreOwned (map f xs) most
owned_map f most xs all j c p at is =
    let s = stands_below f xs j p at in
    all s.element c (ap (λ (v : Option ℕ × List ℕ). v.0) s.is ∙ is)
