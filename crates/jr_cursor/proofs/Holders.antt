-- One identifier of a text holds a byte at most.
use Rattle.std.proofs.Common.{◌≡◌, ℕ, zero, suc, ◌<◌, ◌≤◌, List, [], ◌∷◌, ◌++◌, Some, refl, sym, ap, subst, ◌∙◌, arith, append_assoc}
use Rattle.std.specs.Prelude.{slice_get, fold}
use Rattle.std.proofs.lemmas.Option.{none-some, same_Some}
use Rattle.jr_lex.specs.declared.items.Item.{Item}
use Rattle.jr_lex.specs.Lexes.{Lexes}
use Rattle.jr_lex.specs.Places.{ItemsPlaced, end_of}
use Rattle.jr_images.specs.Targets.{HoldsIdentifier}

end_from : (e : ℕ) (front : List Item) (i : Item) → fold (λ (n : ℕ) (x : Item). x.span.to) e (front ++ i ∷ []) ≡ i.span.to
end_from e [] i = refl
end_from e (x ∷ front) i = end_from x.span.to front i

module _ (text : List ℕ) (placed : ItemsPlaced) where
  late : (front items : List Item) → Lexes text (front ++ items) → (n : ℕ) (x : Item) → slice_get items n ≡ Some x → end_of front ≤ x.span.from
  late front [] lexes n x e = absurd (none-some x e)
  late front (i ∷ items) lexes zero x e =
      let from = (placed text front i items lexes).1 in
      let same = ap (λ (y : Item). y.span.from) (same_Some i x e) in
      omega (arith, from, same)
  late front (i ∷ items) lexes (suc n) x e =
      let is = placed text front i items lexes in
      let further : Lexes text ((front ++ i ∷ []) ++ items) = subst (Lexes text) (sym (append_assoc front (i ∷ []) items)) lexes in
      let behind = late (front ++ i ∷ []) items further n x e in
      let ends = end_from 0 front i in
      let some = is.0.some in
      let from = is.1 in
      omega (arith, behind, ends, some, from)

  -- each other one begins behind the first of them
  behind : (front : List Item) (i : Item) (items : List Item) → Lexes text (front ++ i ∷ items) → (n : ℕ) (x : Item) → slice_get items n ≡ Some x → i.span.to ≤ x.span.from
  behind front i items lexes n x e =
      let further : Lexes text ((front ++ i ∷ []) ++ items) = subst (Lexes text) (sym (append_assoc front (i ∷ []) items)) lexes in
      let later = late (front ++ i ∷ []) items further n x e in
      let ends = end_from 0 front i in
      omega (arith, later, ends)

  one_holder : (front items : List Item) → Lexes text (front ++ items) → (at i j : ℕ) (x y : Item) → slice_get items i ≡ Some x → slice_get items j ≡ Some y
      → x.span.from ≤ at → at < x.span.to → y.span.from ≤ at → at < y.span.to → x.span.from ≡ y.span.from
  one_holder front [] lexes at i j x y e f a b c d = absurd (none-some x e)
  one_holder front (k ∷ items) lexes at zero zero x y e f a b c d = sym (ap (λ (z : Item). z.span.from) (same_Some k x e)) ∙ ap (λ (z : Item). z.span.from) (same_Some k y f)
  one_holder front (k ∷ items) lexes at zero (suc j) x y e f a b c d =
      let later = behind front k items lexes j y f in
      let is = ap (λ (z : Item). z.span.to) (same_Some k x e) in
      absurd (omega (arith, later, is, b, c))
  one_holder front (k ∷ items) lexes at (suc i) zero x y e f a b c d =
      let later = behind front k items lexes i x e in
      let is = ap (λ (z : Item). z.span.to) (same_Some k y f) in
      absurd (omega (arith, later, is, a, d))
  one_holder front (k ∷ items) lexes at (suc i) (suc j) x y e f a b c d =
      let further : Lexes text ((front ++ k ∷ []) ++ items) = subst (Lexes text) (sym (append_assoc front (k ∷ []) items)) lexes in
      one_holder (front ++ k ∷ []) items further at i j x y e f a b c d

  pub one_begins : ((bytes : List ℕ) (items others : List Item) → Lexes bytes items → Lexes bytes others → items ≡ others) → (at m n : ℕ) → HoldsIdentifier text at m → HoldsIdentifier text at n → m ≡ n
  one_begins once at m n h k =
      let same = once text k.items h.items k.lexes h.lexes in
      let there = subst (λ (xs : List Item). slice_get xs k.number ≡ Some k.holder) same k.stands in
      let one = one_holder [] h.items h.lexes at h.number k.number h.holder k.holder h.stands there (subst (λ (f : ℕ). f ≤ at) (sym h.begins) h.behind) h.inside (subst (λ (f : ℕ). f ≤ at) (sym k.begins) k.behind) k.inside in
      sym h.begins ∙ one ∙ k.begins
