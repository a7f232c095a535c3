-- Two lists in a strict order that have the same elements are one.
use Rattle.std.proofs.Common.{◌≡◌, zero, suc, List, [], ◌∷◌, refl, sym, subst, ◌∙◌, arith, inl, inr}
use Rattle.std.specs.Prelude.{◌⊎◌, ◌↔◌, Contains, AllPairs}

module _ {X : Type 0} (R : X → X → Type 0) (apart : (x y : X) → R x y → R y x → ⊥) where
  before : (x : X) (xs : List X) → AllPairs R (x ∷ xs) → (y : X) → Contains xs y → R x y
  before x xs h y (k, lt, is) = subst (R x) is (h 0 (suc k) y (omega arith) (omega (arith, lt)))

  behind : (x : X) (xs : List X) → AllPairs R (x ∷ xs) → AllPairs R xs
  behind x xs h i j d lt within = h (suc i) (suc j) d (omega (arith, lt)) (omega (arith, within))

  there : (x : X) (xs : List X) → Contains (x ∷ xs) x
  there x xs = (0, omega arith, refl)

  later : (x y : X) (xs : List X) → Contains xs y → Contains (x ∷ xs) y
  later x y xs (k, lt, is) = (suc k, omega (arith, lt), is)

  either : (x y : X) (xs : List X) → Contains (x ∷ xs) y → (x ≡ y) ⊎ Contains xs y
  either x y xs (zero, lt, is) = inl is
  either x y xs (suc k, lt, is) = inr (k, omega (arith, lt), is)

  none : (x : X) → Contains [] x → ⊥
  none x (k, lt, is) = omega (arith, lt)

  pub one_list : (xs ys : List X) → AllPairs R xs → AllPairs R ys → ((x : X) → Contains xs x ↔ Contains ys x) → xs ≡ ys
  one_list [] [] f g same = refl
  one_list [] (y ∷ ys) f g same = absurd (none y ((same y).1 (there y ys)))
  one_list (x ∷ xs) [] f g same = absurd (none x ((same x).0 (there x xs)))
  one_list (x ∷ xs) (y ∷ ys) f g same = join first (one_list xs ys (behind x xs f) (behind y ys g) (λ e. (down first e, up first e)))
    where
      join : x ≡ y → xs ≡ ys → x ∷ xs ≡ y ∷ ys
      join a b = λ i. a i ∷ b i

      meet : ((y ≡ x) ⊎ Contains ys x) → ((x ≡ y) ⊎ Contains xs y) → x ≡ y
      meet (inl a) h = sym a
      meet (inr a) (inl b) = b
      meet (inr a) (inr b) = absurd (apart x y (before x xs f y b) (before y ys g x a))

      first : x ≡ y
      first = meet (either y x ys ((same x).0 (there x xs))) (either x y xs ((same y).1 (there y ys)))

      down : x ≡ y → (e : X) → Contains xs e → Contains ys e
      down a e i = by (either y e ys ((same e).0 (later x e xs i)))
        where
          by : ((y ≡ e) ⊎ Contains ys e) → Contains ys e
          by (inl b) = let r = subst (R x) (sym (a ∙ b)) (before x xs f e i) in absurd (apart x x r r)
          by (inr b) = b

      up : x ≡ y → (e : X) → Contains ys e → Contains xs e
      up a e i = by (either x e xs ((same e).1 (later y e ys i)))
        where
          by : ((x ≡ e) ⊎ Contains xs e) → Contains xs e
          by (inl b) = let r = subst (R y) (sym (sym a ∙ b)) (before y ys g e i) in absurd (apart y y r r)
          by (inr b) = b
