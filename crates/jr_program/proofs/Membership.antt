-- Elements with a property, as a list grows.
use Rattle.std.proofs.Common.{◌≡◌, ℕ, zero, suc, ◌+◌, ◌<◌, ◌≤◌, List, [], ◌∷◌, ◌++◌, length, take, get_or, map, Bool, true, false, refl, sym, ap, subst, ◌∙◌, arith, inl, inr}
use Rattle.std.specs.Prelude.{◌⊎◌, ◌↔◌, filter}
use Rattle.std.proofs.lemmas.Bool.{cond-true, cond-false}
use Rattle.std.proofs.lemmas.List.{take_more, take_all}
use Rattle.jr_program.specs.Members.{AnyOf, EachOf}

pub chain : {P Q R : Type 0} → (P ↔ Q) → (Q ↔ R) → P ↔ R
chain f g = (λ p. g.0 (f.0 p), λ r. f.1 (g.1 r))

pub flip : {P Q : Type 0} → (P ↔ Q) → Q ↔ P
flip f = (f.1, f.0)

pub both : {P Q R S : Type 0} → (P ↔ Q) → (R ↔ S) → (P ⊎ R) ↔ (Q ⊎ S)
both {P} {Q} {R} {S} f g = (to, back)
  where
    to : (P ⊎ R) → Q ⊎ S
    to (inl p) = inl (f.0 p)
    to (inr r) = inr (g.0 r)

    back : (Q ⊎ S) → P ⊎ R
    back (inl q) = inl (f.1 q)
    back (inr s) = inr (g.1 s)

pub none : {P Q : Type 0} → (Q → ⊥) → P ↔ (P ⊎ Q)
none {P} {Q} f = (λ p. inl p, back)
  where
    back : (P ⊎ Q) → P
    back (inl p) = p
    back (inr q) = absurd (f q)

pub exchange : {P Q : Type 0} → (P ⊎ Q) ↔ (Q ⊎ P)
exchange {P} {Q} = (to, back)
  where
    to : (P ⊎ Q) → Q ⊎ P
    to (inl p) = inr p
    to (inr q) = inl q

    back : (Q ⊎ P) → P ⊎ Q
    back (inl q) = inr q
    back (inr p) = inl p

pub regroup : {P Q R : Type 0} → ((P ⊎ Q) ⊎ R) ↔ (P ⊎ (Q ⊎ R))
regroup {P} {Q} {R} = (to, back)
  where
    to : ((P ⊎ Q) ⊎ R) → P ⊎ (Q ⊎ R)
    to (inl (inl p)) = inl p
    to (inl (inr q)) = inr (inl q)
    to (inr r) = inr (inr r)

    back : (P ⊎ (Q ⊎ R)) → (P ⊎ Q) ⊎ R
    back (inl p) = inl (inl p)
    back (inr (inl q)) = inl (inr q)
    back (inr (inr r)) = inr r

module _ {X : Type 0} where
  pub any_push : (P : X → Type 0) (xs : List X) (x : X) → AnyOf P (xs ++ x ∷ []) ↔ (AnyOf P xs ⊎ P x)
  any_push P [] x = (to, back)
    where
      to : (P x ⊎ ⊥) → ⊥ ⊎ P x
      to (inl p) = inr p
      to (inr f) = absurd f

      back : (⊥ ⊎ P x) → P x ⊎ ⊥
      back (inl f) = absurd f
      back (inr p) = inl p
  any_push P (y ∷ ys) x = chain (both (λ p. p, λ p. p) (any_push P ys x)) (flip regroup)

  pub any_more : (P : X → Type 0) (xs : List X) (i : ℕ) (x : X) → i < length xs → x ≡ get_or xs i x → AnyOf P (take (i + 1) xs) ↔ (AnyOf P (take i xs) ⊎ P x)
  any_more P xs i x lt is = subst (λ ys. AnyOf P ys ↔ (AnyOf P (take i xs) ⊎ P x)) (sym (take_more xs i x lt ∙ ap (λ y. take i xs ++ y ∷ []) (sym is))) (any_push P (take i xs) x)

  pub any_more_at : (P : X → Type 0) (xs : List X) (i : ℕ) (d : X) → i < length xs → AnyOf P (take (i + 1) xs) ↔ (AnyOf P (take i xs) ⊎ P (get_or xs i d))
  any_more_at P xs i d lt = subst (λ ys. AnyOf P ys ↔ (AnyOf P (take i xs) ⊎ P (get_or xs i d))) (sym (take_more xs i d lt)) (any_push P (take i xs) (get_or xs i d))

  pub any_end : (P : X → Type 0) (xs : List X) (i : ℕ) → length xs ≤ i → AnyOf P (take i xs) ↔ AnyOf P xs
  any_end P xs i le = subst (λ ys. AnyOf P ys ↔ AnyOf P xs) (sym (take_all i xs le)) (λ h. h, λ h. h)

  pub any_iff : (P Q : X → Type 0) → ((x : X) → P x ↔ Q x) → (xs : List X) → AnyOf P xs ↔ AnyOf Q xs
  any_iff P Q f [] = (λ h. h, λ h. h)
  any_iff P Q f (x ∷ xs) = both (f x) (any_iff P Q f xs)

  pub any_with : (P : X → Type 0) (Q : Type 0) (xs : List X) → AnyOf (λ x. P x × Q) xs ↔ (AnyOf P xs × Q)
  any_with P Q xs = (to xs, λ h. back xs h.0 h.1)
    where
      to : (xs : List X) → AnyOf (λ x. P x × Q) xs → AnyOf P xs × Q
      to [] h = absurd h
      to (x ∷ xs) (inl h) = (inl h.0, h.1)
      to (x ∷ xs) (inr h) = let r = to xs h in (inr r.0, r.1)

      back : (xs : List X) → AnyOf P xs → Q → AnyOf (λ x. P x × Q) xs
      back [] h q = absurd h
      back (x ∷ xs) (inl p) q = inl (p, q)
      back (x ∷ xs) (inr h) q = inr (back xs h q)

  pub any_none : (P : X → Type 0) (xs : List X) → ((x : X) → P x → ⊥) → AnyOf P xs → ⊥
  any_none P [] f h = h
  any_none P (x ∷ xs) f (inl p) = f x p
  any_none P (x ∷ xs) f (inr h) = any_none P xs f h

  pub each_at : (P : X → Type 0) (xs : List X) (i : ℕ) (x d : X) → EachOf P xs → i < length xs → x ≡ get_or xs i d → P x
  each_at P [] i x d h lt is = absurd (omega (arith, lt))
  each_at P (y ∷ ys) zero x d h lt is = subst P (sym is) h.0
  each_at P (y ∷ ys) (suc i) x d h lt is = each_at P ys i x d h.1 (omega (arith, lt)) is

-- of the images
pub any_map : {X Y : Type 0} (f : X → Y) (P : Y → Type 0) (xs : List X) → AnyOf P (map f xs) ↔ AnyOf (λ x. P (f x)) xs
any_map f P [] = (λ h. h, λ h. h)
any_map f P (x ∷ xs) = both (λ p. p, λ p. p) (any_map f P xs)

pub each_map : {X Y : Type 0} (f : X → Y) (P : Y → Type 0) (xs : List X) (i : ℕ) (x d : X) → EachOf P (map f xs) → i < length xs → x ≡ get_or xs i d → P (f x)
each_map f P [] i x d h lt is = absurd (omega (arith, lt))
each_map f P (y ∷ ys) zero x d h lt is = subst (λ z. P (f z)) (sym is) h.0
each_map f P (y ∷ ys) (suc i) x d h lt is = each_map f P ys i x d h.1 (omega (arith, lt)) is

-- what has the property stands among those that pass a test
module _ {X : Type 0} (P : X → Type 0) (test : X → Bool) (pass : (x : X) → P x → test x ≡ true) where
  fails : (x : X) → test x ≡ false → P x → ⊥
  fails x e p = let both : true ≡ false = sym (pass x p) ∙ e in absurd cc

  filter_more : (x : X) (xs : List X) (b : Bool) → test x ≡ b → (AnyOf P (filter test xs) ↔ AnyOf P xs) → AnyOf P (filter test (x ∷ xs)) ↔ AnyOf P (x ∷ xs)
  filter_more x xs true e f = subst (λ ys. AnyOf P ys ↔ AnyOf P (x ∷ xs)) (sym (cond-true (test x) (x ∷ filter test xs) (filter test xs) e)) (both (λ p. p, λ p. p) f)
  filter_more x xs false e f = subst (λ ys. AnyOf P ys ↔ AnyOf P (x ∷ xs)) (sym (cond-false (test x) (x ∷ filter test xs) (filter test xs) e)) (chain f (chain (none (fails x e)) exchange))

  pub any_filter : (xs : List X) → AnyOf P (filter test xs) ↔ AnyOf P xs
  any_filter [] = (λ h. h, λ h. h)
  any_filter (x ∷ xs) = filter_more x xs (test x) refl (any_filter xs)
