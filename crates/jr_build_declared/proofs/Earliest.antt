-- The earliest place that has a property, found declaration by declaration.
use Rattle.std.proofs.Common.{◌≡◌, ℕ, zero, suc, ◌+◌, ◌<◌, ◌≤◌, List, [], ◌∷◌, length, get_or, map, Option, Some, None, refl, sym, ap, subst, ◌∙◌, inl, inr, arith}
use Rattle.std.specs.Prelude.{slice_get, ◌⊎◌, ◌↔◌}
use Rattle.std.proofs.lemmas.Option.{slice_get_within}
use Rattle.jr_table.specs.Faults.{Place, IsUpTo}
use Rattle.jr_build_places.specs.Places.{IsEarliest, IsEarlier, within_file}
use Rattle.jr_table.specs.DeclaredItems.{Item, DeclaredItem}
use Rattle.jr_table.specs.Faults.{At}
use Rattle.jr_build_declared.specs.DeclarationFaults.{IsLeastAt, Among}

up_to_on : (p q r : Place) → IsUpTo p q → IsUpTo q r → IsUpTo p r
up_to_on p q r (inl a) (inl b) = inl (omega (arith, a, b))
up_to_on p q r (inl a) (inr (b, c)) = inl (omega (arith, a, b))
up_to_on p q r (inr (a, c)) (inl b) = inl (omega (arith, a, b))
up_to_on p q r (inr (a, c)) (inr (b, d)) = inr (a ∙ b, omega (arith, c, d))

-- the same property
pub same_property : (P Q : Place → Type 0) → ((p : Place) → P p → Q p) → ((p : Place) → Q p → P p) → (r : Option Place) → IsEarliest P r → IsEarliest Q r
same_property P Q to from None h = λ p q. h p (from p q)
same_property P Q to from (Some p) h = (to p h.0, λ q k. h.1 q (from q k))

on_either : {P Q R : Type 0} → (P → R) → (Q → R) → P ⊎ Q → R
on_either f g (inl x) = f x
on_either f g (inr y) = g y

-- one of two properties
pub joined : (P Q : Place → Type 0) (a b r : Option Place) → IsEarliest P a → IsEarliest Q b → IsEarlier a b r → IsEarliest (λ p. P p ⊎ Q p) r
joined P Q None None r h k e = subst (IsEarliest (λ p. P p ⊎ Q p)) (sym e) (λ p. on_either (h p) (k p))
joined P Q None (Some q) r h k e = subst (IsEarliest (λ p. P p ⊎ Q p)) (sym e) (inr k.0, λ p. on_either (λ x. absurd (h p x)) (k.1 p))
joined P Q (Some p) None r h k e = subst (IsEarliest (λ p. P p ⊎ Q p)) (sym e) (inl h.0, λ q. on_either (h.1 q) (λ y. absurd (k q y)))
joined P Q (Some p) (Some q) r h k (inl (e, up)) = subst (IsEarliest (λ p. P p ⊎ Q p)) (sym e) (inl h.0, λ s. on_either (h.1 s) (λ y. up_to_on p q s up (k.1 s y)))
joined P Q (Some p) (Some q) r h k (inr (e, up)) = subst (IsEarliest (λ p. P p ⊎ Q p)) (sym e) (inr k.0, λ s. on_either (λ x. up_to_on q p s up (h.1 s x)) (k.1 s))

-- a byte of one file
pub in_one_file : (P : ℕ → Type 0) (file : ℕ) (at : Option ℕ) → IsLeastAt P at → IsEarliest (λ p. (p.file ≡ file) × P p.at) (within_file file at)
in_one_file P file None h = λ p k. h p.at k.1
in_one_file P file (Some a) h = ((refl, h.0), λ q k. inr (sym k.0, h.1 q.at k.1))

-- what stands at a place of a mapped list
pub map_stands : {X Y : Type 0} (f : X → Y) (xs : List X) (i : ℕ) (x : X) → i < length xs → x ≡ get_or xs i x → slice_get (map f xs) i ≡ Some (f x)
map_stands f [] i x lt e = absurd (omega arith)
map_stands f (y ∷ ys) zero x lt e = ap (λ z. Some (f z)) (sym e)
map_stands f (y ∷ ys) (suc i) x lt e = map_stands f ys i x (omega arith) e

pub inside : {X : Type 0} (x y : X) → Some x ≡ Some y → x ≡ y
inside x y e = cc

-- one number has one declaration
pub one_declaration : (declarations : List DeclaredItem) (n f g : ℕ) (x y : Item) → slice_get declarations n ≡ Some (record { file = f; item = x }) → slice_get declarations n ≡ Some (record { file = g; item = y }) → (f ≡ g) × (x ≡ y)
one_declaration declarations n f g x y h k =
    let s = inside _ _ (sym h ∙ k) in
    (ap (λ (z : DeclaredItem). z.file) s, ap (λ (z : DeclaredItem). z.item) s)

module _ (declarations : List DeclaredItem) (Fault : ℕ → Item → ℕ → Type 0) where
  split : (m n : ℕ) → m < n + 1 → (m < n) ⊎ (m ≡ n)
  split m n h = grind arith

  pub none_among : IsEarliest (Among declarations Fault 0) None
  none_among p h = let l = h.below in omega arith

  -- one declaration more
  pub one_more : (n file : ℕ) (item : Item) (best : Option Place) (here : Option ℕ) (r : Option Place) → slice_get declarations n ≡ Some (record { file = file; item = item })
      → IsEarliest (Among declarations Fault n) best → IsLeastAt (Fault n item) here → IsEarlier best (within_file file here) r → IsEarliest (Among declarations Fault (n + 1)) r
  one_more n file item best here r at so_far own e =
      same_property (λ p. Among declarations Fault n p ⊎ ((p.file ≡ file) × Fault n item p.at)) (Among declarations Fault (n + 1)) to from r
      (joined (Among declarations Fault n) (λ p. (p.file ≡ file) × Fault n item p.at) best (within_file file here) r so_far (in_one_file (Fault n item) file here own) e)
    where
      to : (p : Place) → (Among declarations Fault n p ⊎ ((p.file ≡ file) × Fault n item p.at)) → Among declarations Fault (n + 1) p
      to p (inl h) = record { number = h.number; below = let l = h.below in omega (arith, l); item = h.item; stands = h.stands; has = h.has }
      to p (inr (f, h)) = record { number = n; below = omega arith; item = item; stands = record { stands = at ∙ ap (λ z. Some (record { file = z; item = item })) (sym f) }; has = h }

      of : (p : Place) (h : Among declarations Fault (n + 1) p) → ((h.number < n) ⊎ (h.number ≡ n)) → Among declarations Fault n p ⊎ ((p.file ≡ file) × Fault n item p.at)
      of p h (inl l) = inl (record { number = h.number; below = l; item = h.item; stands = h.stands; has = h.has })
      of p h (inr e) =
          let same = one_declaration declarations n p.file file h.item item (ap (slice_get declarations) (sym e) ∙ h.stands.stands) at in
          inr (same.0, subst (λ x. Fault n x p.at) same.1 (subst (λ m. Fault m h.item p.at) e h.has))

      from : (p : Place) → Among declarations Fault (n + 1) p → Among declarations Fault n p ⊎ ((p.file ≡ file) × Fault n item p.at)
      from p h = of p h (split h.number n h.below)

  -- all declarations
  pub all : (n : ℕ) → length declarations ≤ n → (r : Option Place) → IsEarliest (Among declarations Fault n) r
      → IsEarliest (λ p. (i : ℕ) × (item : Item) × At declarations i p.file item × Fault i item p.at) r
  all n past r h = same_property (Among declarations Fault n) (λ p. (i : ℕ) × (item : Item) × At declarations i p.file item × Fault i item p.at)
      (λ p a. (a.number, a.item, a.stands, a.has))
      (λ p (i, item, at, has). record { number = i; below = let l = slice_get_within declarations i _ at.stands in omega (arith, l, past); item = item; stands = at; has = has }) r h
