-- A text has no more items than bytes.
use Rattle.std.proofs.Common.{◌≡◌, ℕ, zero, suc, ◌+◌, ◌<◌, ◌≤◌, List, [], ◌∷◌, ◌++◌, length, take, drop, get_or, refl, sym, ap, subst, ◌∙◌, add-one, arith}
use Rattle.std.proofs.Math.Seq.{take-suc}
use Rattle.std.proofs.lemmas.List.{take-append-drop}
use Rattle.std.specs.Prelude.{fold}
use Rattle.jr_lex.specs.declared.items.Item.{Item}
use Rattle.jr_lex.specs.Lexes.{Lexes}
use Rattle.jr_lex.specs.Places.{ItemsPlaced, LastPlaced, end_of}
use Rattle.jr_pexpr.proofs.Walking.{no_item, drop_at}

end_of_last : (xs : List Item) (x : Item) (a : ℕ) → fold (λ _ (i : Item). i.span.to) a (xs ++ x ∷ []) ≡ x.span.to
end_of_last [] x a = refl
end_of_last (y ∷ xs) x a = end_of_last xs x y.span.to

front_few : (bytes : List ℕ) (items : List Item) (k : ℕ) → ItemsPlaced → Lexes bytes items → k ≤ length items → k ≤ end_of (take k items)
front_few bytes items zero p l h = omega arith
front_few bytes items (suc k) p l h =
    let x = get_or items k no_item in
    let front = take k items in
    let split : items ≡ front ++ x ∷ drop (k + 1) items = sym (take-append-drop k items) ∙ ap (λ (is : List Item). front ++ is) (drop_at items k (omega arith)) in
    let placed = p bytes front x (drop (k + 1) items) (subst (Lexes bytes) split l) in
    let more : end_of (take (suc k) items) ≡ x.span.to = ap end_of (take-suc items k no_item (omega arith)) ∙ end_of_last front x 0 in
    omega (arith, front_few bytes items k p l (omega arith), more, placed.0.some, placed.1)

pub few : (bytes : List ℕ) (items : List Item) → ItemsPlaced → LastPlaced → Lexes bytes items → length items ≤ length bytes
few bytes items p q l =
    let n = front_few bytes items (length items) p l (omega arith) in
    let all : end_of (take (length items) items) ≡ end_of items = ap end_of (all_of items) in
    omega (arith, n, all, q bytes items l)
  where
    all_of : (xs : List Item) → take (length xs) xs ≡ xs
    all_of [] = refl
    all_of (x ∷ xs) = ap (λ (ys : List Item). x ∷ ys) (all_of xs)
