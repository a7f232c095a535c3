-- The last of a list that has a property: by its number, and by recursion on the list.
use Rattle.std.proofs.Common.{◌≡◌, ℕ, zero, suc, ◌<◌, List, [], ◌∷◌, ◌++◌, Option, Some, None, refl, sym, ap, subst, inl, inr, arith}
use Rattle.std.specs.Prelude.{◌⊎◌, slice_get}
use Rattle.jr_local_walks.specs.Contexts.{Each}

some_is : {X : Type 0} {x y : X} → (let a : Option X = Some x in a ≡ Some y) → x ≡ y
some_is e = cc

none_is : {X P : Type 0} {x : X} → (let a : Option X = None in a ≡ Some x) → P
none_is e = absurd cc

module _ {X : Type 0} where
  pub record LastAt (P : X → Type 0) (xs : List X) (x : X) : Type 0 where
    pub number : ℕ
    pub stands : slice_get xs number ≡ Some x
    pub is : P x
    pub last : (i : ℕ) (y : X) → number < i → slice_get xs i ≡ Some y → P y → ⊥

  abbrev pub NoneHas : (X → Type 0) → List X → Type 0
  NoneHas P [] = Unit {0}
  NoneHas P (x ∷ xs) = (P x → ⊥) × NoneHas P xs

  abbrev pub LastHas : (X → Type 0) → List X → X → Type 0
  LastHas P [] x = ⊥
  LastHas P (y ∷ ys) x = LastHas P ys x ⊎ ((y ≡ x) × P x × NoneHas P ys)

  none_from : (P : X → Type 0) (xs : List X) → ((i : ℕ) (y : X) → slice_get xs i ≡ Some y → P y → ⊥) → NoneHas P xs
  none_from P [] h = tt
  none_from P (x ∷ xs) h = (h 0 x refl, none_from P xs (λ i y. h (suc i) y))

  none_at : (P : X → Type 0) (xs : List X) → NoneHas P xs → (i : ℕ) (y : X) → slice_get xs i ≡ Some y → P y → ⊥
  none_at P [] h i y e p = none_is e
  none_at P (x ∷ xs) h zero y e p = h.0 (subst P (sym (some_is e)) p)
  none_at P (x ∷ xs) h (suc i) y e p = none_at P xs h.1 i y e p

  pub has_last : (P : X → Type 0) (xs : List X) (x : X) (n : ℕ) → slice_get xs n ≡ Some x → P x → ((i : ℕ) (y : X) → n < i → slice_get xs i ≡ Some y → P y → ⊥) → LastHas P xs x
  has_last P [] x n e p h = none_is e
  has_last P (y ∷ ys) x zero e p h = inr (some_is e, p, none_from P ys (λ i z. h (suc i) z (omega arith)))
  has_last P (y ∷ ys) x (suc n) e p h = inl (has_last P ys x n e p (λ i z less. h (suc i) z (let l = less in omega (arith, l))))

  pub last_at : (P : X → Type 0) (xs : List X) (x : X) → LastHas P xs x → LastAt P xs x
  last_at P [] x h = absurd h
  last_at P (y ∷ ys) x (inl h) =
      let z = last_at P ys x h in record { number = suc z.number; stands = z.stands; is = z.is; last = λ i w. later z.number z.last i w }
    where
      later : (n : ℕ) → ((i : ℕ) (w : X) → n < i → slice_get ys i ≡ Some w → P w → ⊥) → (i : ℕ) (w : X) → suc n < i → slice_get (y ∷ ys) i ≡ Some w → P w → ⊥
      later n last zero w less e p = let l = less in absurd (omega (arith, l))
      later n last (suc i) w less e p = last i w (let l = less in omega (arith, l)) e p
  last_at P (y ∷ ys) x (inr (is, p, none)) = record { number = 0; stands = ap (λ (z : X). Some z) is; is = p; last = λ i w. later i w }
    where
      later : (i : ℕ) (w : X) → 0 < i → slice_get (y ∷ ys) i ≡ Some w → P w → ⊥
      later zero w less e q = let l = less in absurd (omega (arith, l))
      later (suc i) w less e q = none_at P ys none i w e q

  -- ---- one list behind another

  pub none_both : (P : X → Type 0) (xs ys : List X) → NoneHas P xs → NoneHas P ys → NoneHas P (xs ++ ys)
  none_both P [] ys h k = k
  none_both P (x ∷ xs) ys h k = (h.0, none_both P xs ys h.1 k)

  pub none_first : (P : X → Type 0) (xs ys : List X) → NoneHas P (xs ++ ys) → NoneHas P xs
  none_first P [] ys h = tt
  none_first P (x ∷ xs) ys h = (h.0, none_first P xs ys h.1)

  pub none_second : (P : X → Type 0) (xs ys : List X) → NoneHas P (xs ++ ys) → NoneHas P ys
  none_second P [] ys h = h
  none_second P (x ∷ xs) ys h = none_second P xs ys h.1

  pub last_second : (P : X → Type 0) (xs ys : List X) (x : X) → LastHas P ys x → LastHas P (xs ++ ys) x
  last_second P [] ys x h = h
  last_second P (y ∷ xs) ys x h = inl (last_second P xs ys x h)

  pub last_first : (P : X → Type 0) (xs ys : List X) (x : X) → LastHas P xs x → NoneHas P ys → LastHas P (xs ++ ys) x
  last_first P [] ys x h k = absurd h
  last_first P (y ∷ xs) ys x (inl h) k = inl (last_first P xs ys x h k)
  last_first P (y ∷ xs) ys x (inr (is, p, none)) k = inr (is, p, none_both P xs ys none k)

  pub last_either : (P : X → Type 0) (xs ys : List X) (x : X) → LastHas P (xs ++ ys) x → LastHas P ys x ⊎ (LastHas P xs x × NoneHas P ys)
  last_either P [] ys x h = inl h
  last_either P (y ∷ xs) ys x (inl h) = elim (last_either P xs ys x h) [ inl k ↦ inl k | inr k ↦ inr (inl k.0, k.1) ]
  last_either P (y ∷ xs) ys x (inr (is, p, none)) = inr (inr (is, p, none_first P xs ys none), none_second P xs ys none)

  -- ---- another property

  pub each_both : (F : X → Type 0) (xs ys : List X) → Each F xs → Each F ys → Each F (xs ++ ys)
  each_both F [] ys h k = k
  each_both F (x ∷ xs) ys h k = (h.0, each_both F xs ys h.1 k)

  pub each_as : (F G : X → Type 0) → ((x : X) → F x → G x) → (xs : List X) → Each F xs → Each G xs
  each_as F G to [] h = tt
  each_as F G to (x ∷ xs) h = (to x h.0, each_as F G to xs h.1)

  pub none_as : (P Q : X → Type 0) (xs : List X) → Each (λ x. Q x → P x) xs → NoneHas P xs → NoneHas Q xs
  none_as P Q [] e h = tt
  none_as P Q (x ∷ xs) e h = (λ q. h.0 (e.0 q), none_as P Q xs e.1 h.1)

  pub last_as : (P Q : X → Type 0) (xs : List X) (x : X) → Each (λ x. P x → Q x) xs → Each (λ x. Q x → P x) xs → LastHas P xs x → LastHas Q xs x
  last_as P Q [] x e f h = absurd h
  last_as P Q (y ∷ ys) x e f (inl h) = inl (last_as P Q ys x e.1 f.1 h)
  last_as P Q (y ∷ ys) x e f (inr (is, p, none)) = inr (is, subst Q is (e.0 (subst P (sym is) p)), none_as P Q ys f.1 none)
