-- A sorted list of numbers that are in it once is the list of those numbers in order.
use Rattle.std.proofs.Common.{◌≡◌, ℕ, suc, ◌+◌, ◌<◌, ◌≤◌, List, [], ◌∷◌, Option, Some, None, Bool, true, false, length, refl, sym, ap, subst, ◌∙◌, inl, inr, arith, eqb-true, eq-eqb}
use Rattle.std.specs.Prelude.{nat_eq, slice_get, ◌⊎◌, ◌||◌}
use Rattle.std.specs.Ordering.{nat_cmp}
use Rattle.std.specs.List.{list_any, IsDistinct, slice_index}
use Rattle.std.specs.List.Sorted.{IsPermutation, IsSorted, IsStrictlyIncreasing}
use Rattle.std.proofs.lemmas.Option.{slice_get_within}
use Rattle.std.proofs.lemmas.List.Sorted.{IsNonDecreasingBy-from_sort, list_any-IsPermutation}
use Rattle.std.proofs.lemmas.Map.Keys.{IsDistinct-IsPermutation, IsStrictlyIncreasing-from_distinct}
use Rattle.jr_table.specs.declared.entries.Entry.{Entry}
use Rattle.jr_table.specs.Chains.{In}
use Rattle.jr_table.specs.Calls.{is_named, is_named_entry, methods_named, passing}
use Rattle.jr_table.specs.Gathering.{AreNamed}
use Rattle.jr_table.proofs.Ascending.{Ascends, at_least, passing_is, passing_ascends}
use Rattle.jr_table.proofs.Assigning.{any_in}

-- numbers that rise ascend
ascends_from : (n x : ℕ) (xs : List ℕ) → n ≤ x → IsStrictlyIncreasing (x ∷ xs) → Ascends n (x ∷ xs)
ascends_from n x [] le h = (le, tt)
ascends_from n x (y ∷ ys) le h = (le, ascends_from (suc x) y ys first tail)
  where
    first : suc x ≤ y
    first = let l = h 0 (omega arith) in omega (arith, l)

    tail : IsStrictlyIncreasing (y ∷ ys)
    tail k lt =
        let e : suc k + 1 ≡ suc (k + 1) = omega arith in
        subst (λ n. slice_index (y ∷ ys) k < slice_index (x ∷ y ∷ ys) n) e (h (suc k) (omega (arith, lt)))

rising_ascends : (xs : List ℕ) → IsStrictlyIncreasing xs → Ascends 0 xs
rising_ascends [] h = tt
rising_ascends (x ∷ xs) h = ascends_from 0 x xs (omega arith) h

-- two lists that ascend and have the same numbers are one
same_ascending : (n m : ℕ) (xs ys : List ℕ) → Ascends n xs → Ascends m ys → ((j : ℕ) → In xs j → In ys j) → ((j : ℕ) → In ys j → In xs j) → xs ≡ ys
same_ascending n m [] [] h k to back = refl
same_ascending n m [] (y ∷ ys) h k to back = absurd (back y (inl refl))
same_ascending n m (x ∷ xs) [] h k to back = absurd (to x (inl refl))
same_ascending n m (x ∷ xs) (y ∷ ys) h k to back = (λ i. head i ∷ same_ascending (suc x) (suc y) xs ys h.1 k.1 (λ j i. behind j i (to j (inr i))) (λ j i. before j i (back j (inr i))) i)
  where
    head : x ≡ y
    head =
        let a = at_least y (y ∷ ys) x (omega arith, k.1) (to x (inl refl)) in
        let b = at_least x (x ∷ xs) y (omega arith, h.1) (back y (inl refl)) in
        omega (arith, a, b)

    behind : (j : ℕ) → In xs j → In (y ∷ ys) j → In ys j
    behind j i (inl s) = let l = at_least (suc x) xs j h.1 i in let e = head in absurd (omega (arith, l, s, e))
    behind j i (inr r) = r

    before : (j : ℕ) → In ys j → In (x ∷ xs) j → In xs j
    before j i (inl s) = let l = at_least (suc y) ys j k.1 i in let e = head in absurd (omega (arith, l, s, e))
    before j i (inr r) = r

in_any : (xs : List ℕ) (j : ℕ) → In xs j → list_any (nat_eq j) xs ≡ true
in_any [] j h = absurd h
in_any (x ∷ xs) j (inl s) = ap (λ b. b || list_any (nat_eq j) xs) (eq-eqb j x (sym s))
in_any (x ∷ xs) j (inr h) = right (nat_eq j x) (in_any xs j h)
  where
    right : (a : Bool) {b : Bool} → b ≡ true → (a || b) ≡ true
    right true h = refl
    right false h = h

moved : (xs ys : List ℕ) (j : ℕ) → list_any (nat_eq j) xs ≡ list_any (nat_eq j) ys → In xs j → In ys j
moved xs ys j same i =
    let a = any_in (nat_eq j) ys (sym same ∙ in_any xs j i) in
    subst (In ys) (sym (eqb-true j a.0 a.2)) a.1

same_both_ways : (x y : ℕ) → nat_eq x y ≡ nat_eq y x
same_both_ways x y = by (nat_eq x y) (nat_eq y x) refl refl
  where
    by : (a b : Bool) → nat_eq x y ≡ a → nat_eq y x ≡ b → a ≡ b
    by true true e f = refl
    by false false e f = refl
    by true false e f = let t = eq-eqb y x (sym (eqb-true x y e)) in absurd cc
    by false true e f = let t = eq-eqb x y (sym (eqb-true y x f)) in absurd cc

-- the member methods of a name, sorted
pub sorted_is : (rows : List Entry) (name : List ℕ) (c : ℕ) (xs ys : List ℕ) → AreNamed rows name c xs → IsPermutation xs ys → IsSorted nat_cmp ys → ys ≡ methods_named rows name c
unfolding methods_named is_named
sorted_is rows name c xs ys named moves sorted =
    same_ascending 0 0 ys (passing (is_named rows name c) (length rows)) (rising_ascends ys rising) (passing_ascends (is_named rows name c) (length rows))
    (λ j i. let h = (named.each j).0 (moved ys xs j (sym (list_any-IsPermutation (nat_eq j) xs ys moves)) i) in (passing_is (is_named rows name c) (length rows) j).1 (stands j h, h))
    (λ j i. moved xs ys j (list_any-IsPermutation (nat_eq j) xs ys moves) ((named.each j).1 ((passing_is (is_named rows name c) (length rows) j).0 i).1))
  where
    rising : IsStrictlyIncreasing ys
    rising = IsStrictlyIncreasing-from_distinct ys (IsNonDecreasingBy-from_sort (λ x. x) ys sorted) (IsDistinct-IsPermutation nat_eq same_both_ways xs ys moves named.apart)

    stands : (j : ℕ) → is_named rows name c j ≡ true → j < length rows
    stands j h = of (slice_get rows j) refl h
      where
        of : (o : Option Entry) → slice_get rows j ≡ o → is_named_entry rows name c j o ≡ true → j < length rows
        of None e h = absurd cc
        of (Some x) e h = slice_get_within rows j x e
