-- Tests of all pairs of a list, and of all items of a program's declarations.
use Rattle.std.proofs.lemmas.Bool.{and_parts}
use Rattle.std.proofs.Common.{◌≡◌, ℕ, zero, suc, ◌<◌, List, [], ◌∷◌, Some, Bool, true, ◌&&◌, subst, arith}
use Rattle.std.specs.Prelude.{slice_get}
use Rattle.jr_table.specs.DeclaredItems.{Item, DeclaredItem}
use Rattle.jr_table.specs.Faults.{At}

abbrev pub all : {X : Type 0} → (X → Bool) → List X → Bool
all test [] = true
all test (x ∷ xs) = test x && all test xs

-- each with each that stands behind it
abbrev pub pairs : {X : Type 0} → (X → X → Bool) → List X → Bool
pairs test [] = true
pairs test (x ∷ xs) = all (test x) xs && pairs test xs

module _ {X : Type 0} where
  pub all_at : (test : X → Bool) (xs : List X) (i : ℕ) (y : X) → all test xs ≡ true → slice_get xs i ≡ Some y → test y ≡ true
  all_at test [] i y e at = absurd cc
  all_at test (x ∷ xs) zero y e at = let same : x ≡ y = cc in subst (λ (z : X). test z ≡ true) same (and_parts (test x) (all test xs) e).0
  all_at test (x ∷ xs) (suc i) y e at = all_at test xs i y (and_parts (test x) (all test xs) e).1 at

  pub pairs_at : (test : X → X → Bool) (xs : List X) (i j : ℕ) (y z : X) → pairs test xs ≡ true → i < j → slice_get xs i ≡ Some y → slice_get xs j ≡ Some z → test y z ≡ true
  pairs_at test [] i j y z e less at other = absurd cc
  pairs_at test (x ∷ xs) zero zero y z e less at other = absurd (omega (arith, less))
  pairs_at test (x ∷ xs) zero (suc j) y z e less at other =
      let same : x ≡ y = cc in
      subst (λ (w : X). test w z ≡ true) same (all_at (test x) xs j z (and_parts (all (test x) xs) (pairs test xs) e).0 other)
  pairs_at test (x ∷ xs) (suc i) zero y z e less at other = absurd (omega (arith, less))
  pairs_at test (x ∷ xs) (suc i) (suc j) y z e less at other = pairs_at test xs i j y z (and_parts (all (test x) xs) (pairs test xs) e).1 (omega (arith, less)) at other

module _ (ds : List DeclaredItem) where
  abbrev pub all_items : (Item → Bool) → Bool
  all_items test = all (λ (d : DeclaredItem). test d.item) ds

  abbrev pub all_pairs : (Item → Item → Bool) → Bool
  all_pairs test = pairs (λ (d e : DeclaredItem). test d.item e.item) ds

  pub item_at : (test : Item → Bool) → all_items test ≡ true → (i file : ℕ) (item : Item) → At ds i file item → test item ≡ true
  item_at test e i file item at = all_at (λ (d : DeclaredItem). test d.item) ds i (record { file = file; item = item }) e at.stands

  pub pair_at : (test : Item → Item → Bool) → all_pairs test ≡ true → (i j f g : ℕ) (x y : Item) → i < j → At ds i f x → At ds j g y → test x y ≡ true
  pair_at test e i j f g x y less at other = pairs_at (λ (d c : DeclaredItem). test d.item c.item) ds i j (record { file = f; item = x }) (record { file = g; item = y }) e less at.stands other.stands
