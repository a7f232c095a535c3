-- What stands at a number of a list that is made of parts.
use Rattle.std.proofs.Common.{◌≡◌, ℕ, zero, suc, ◌+◌, List, [], ◌∷◌, ◌++◌, length, map, Some, refl, subst, add-zero, arith}
use Rattle.std.specs.List.{slice_get}
use Rattle.std.proofs.lemmas.List.{length-map}
use Rattle.std.proofs.lemmas.Option.{none-some, same_Some}
use Rattle.jr_paths_nodes.specs.With.{get_from}

module _ {X : Type 0} where
  -- P of whatever stands in the list
  abbrev pub Each : (X → Type 0) → List X → Type 0
  Each P xs = (i : ℕ) (x : X) → slice_get xs i ≡ Some x → P x

  -- x does not stand in the list
  abbrev pub Lacks : List X → X → Type 0
  Lacks xs x = Each (λ y. y ≡ x → ⊥) xs

  pub each-nil : (P : X → Type 0) → Each P []
  each-nil P i x h = absurd (none-some x h)

  pub each-cons : (P : X → Type 0) (x : X) (xs : List X) → P x → Each P xs → Each P (x ∷ xs)
  each-cons P x xs p ps zero y h = subst P (same_Some x y h) p
  each-cons P x xs p ps (suc i) y h = ps i y h

  pub each-append : (P : X → Type 0) (xs ys : List X) → Each P xs → Each P ys → Each P (xs ++ ys)
  each-append P [] ys ps qs = qs
  each-append P (x ∷ xs) ys ps qs = each-cons P x (xs ++ ys) (ps zero x refl) (each-append P xs ys (λ i. ps (suc i)) qs)

  -- what stands past a first item that is another
  pub past_one : (a : ℕ) (y : X) (rest : List X) (i : ℕ) (x : X) → (y ≡ x → ⊥) → get_from a (y ∷ rest) i ≡ Some x → get_from (suc a) rest i ≡ Some x
  past_one zero y rest zero x other h = absurd (other (same_Some y x h))
  past_one zero y rest (suc i) x other h = h
  past_one (suc a) y rest zero x other h = absurd (none-some x h)
  past_one (suc a) y rest (suc i) x other h = past_one a y rest i x other h

  -- what stands past a first part that lacks it
  pub past_part : (a : ℕ) (L rest : List X) (i : ℕ) (x : X) → Lacks L x → get_from a (L ++ rest) i ≡ Some x → get_from (a + length L) rest i ≡ Some x
  past_part a [] rest i x lacks h = rw add-zero h
  past_part a (y ∷ L) rest i x lacks h =
      let e : suc a + length L ≡ a + suc (length L) = omega arith in
      subst (λ k. get_from k rest i ≡ Some x) e
      (past_part (suc a) L rest i x (λ k. lacks (suc k)) (past_one a y (L ++ rest) i x (lacks zero y refl) h))

  -- what stands in front of a last part that lacks it
  pub in_front : (L rest : List X) (i : ℕ) (x : X) → Lacks rest x → slice_get (L ++ rest) i ≡ Some x → slice_get L i ≡ Some x
  in_front [] rest i x lacks h = absurd (lacks i x h refl)
  in_front (y ∷ L) rest zero x lacks h = h
  in_front (y ∷ L) rest (suc i) x lacks h = in_front L rest i x lacks h

  pub in_front_from : (a : ℕ) (L rest : List X) (i : ℕ) (x : X) → Lacks rest x → get_from a (L ++ rest) i ≡ Some x → get_from a L i ≡ Some x
  in_front_from zero L rest i x lacks h = in_front L rest i x lacks h
  in_front_from (suc a) L rest zero x lacks h = h
  in_front_from (suc a) L rest (suc i) x lacks h = in_front_from a L rest i x lacks h

module _ {X Y : Type 0} where
  pub each-map : (P : X → Type 0) (f : Y → X) (ys : List Y) → ((y : Y) → P (f y)) → Each P (map f ys)
  each-map P f [] p = each-nil P
  each-map P f (y ∷ ys) p = each-cons P (f y) (map f ys) (p y) (each-map P f ys p)

  pub past_map : (a : ℕ) (f : Y → X) (ys : List Y) (rest : List X) (i : ℕ) (x : X) → ((y : Y) → f y ≡ x → ⊥) → get_from a (map f ys ++ rest) i ≡ Some x
      → get_from (a + length ys) rest i ≡ Some x
  past_map a f ys rest i x other h =
      subst (λ k. get_from (a + k) rest i ≡ Some x) (length-map ys f)
      (past_part a (map f ys) rest i x (each-map (λ y. y ≡ x → ⊥) f ys other) h)
