-- A span on tokens of names, among the items of the text.
use Rattle.std.proofs.Common.{◌≡◌, ℕ, zero, suc, ◌<◌, ◌≤◌, List, [], ◌∷◌, ◌++◌, Option, Some, None, refl, sym, ap, subst, ◌∙◌, inl, inr, arith, append_assoc}
use Rattle.std.specs.Prelude.{◌⊎◌, slice_get}
use Rattle.std.proofs.lemmas.Bool.{cases_order}
use Rattle.std.proofs.lemmas.List.Sums.{fold-append}
use Rattle.std.proofs.lemmas.Option.{none-some, same_Some}
use Rattle.jr_text.specs.declared.spans.Span.{Span}
use Rattle.jr_lex.specs.declared.items.Item.{Item}
use Rattle.jr_lex.specs.declared.items.ItemKind.{ItemKind}
use Rattle.jr_lex.specs.declared.items.ItemKind.TheVariants as item
use Rattle.jr_lex.specs.declared.items.TokenKind.{TokenKind}
use Rattle.jr_lex.specs.declared.items.TokenKind.TheVariants as kind
use Rattle.jr_lex.specs.declared.items.Keyword.TheVariants.{Super}
use Rattle.jr_lex.specs.declared.items.Symbol.TheVariants.{Dot}
use Rattle.jr_lex.specs.Lexes.{Lexes}
use Rattle.jr_lex.specs.Places.{end_of, ItemsPlaced}
use Rattle.jr_grammar.specs.Tokens.{Token, Placed, token_of_kind, token_of, with_placed, placed_of}
use Rattle.jr_grammar.specs.Stands.{Tokens}
use Rattle.jr_reference_changes.specs.Names.{IsOfName, IsOnNames}
use Rattle.jr_reference_changes.proofs.NameTokens.{IsNameToken, Has, Bounds, OnNames}

-- ---- items that are tokens

module _ (text : List ℕ) where
  here : (s : Span) (t : ItemKind) (k : TokenKind) (rest : Tokens) → t ≡ item.Token k → Has (with_placed s (token_of text s t) rest) (record { mark = s; token = token_of_kind text s k })
  here s t k rest e = subst (λ (z : ItemKind). Has (with_placed s (token_of text s z) rest) (record { mark = s; token = token_of_kind text s k })) (sym e) (inl refl)

  further : (s : Span) (t : Option Token) (rest : Tokens) (p : Placed Span) → Has rest p → Has (with_placed s t rest) p
  further s None rest p h = h
  further s (Some t) rest p h = inr h

  item_token : (items : List Item) (i : ℕ) (x : Item) (k : TokenKind) → slice_get items i ≡ Some x → x.kind ≡ item.Token k → Has (placed_of text items) (record { mark = x.span; token = token_of_kind text x.span k })
  item_token [] i x k there e = absurd (none-some x there)
  item_token (y ∷ items) zero x k there e =
      let same : y ≡ x = same_Some y x there in
      subst (λ (z : Item). Has (placed_of text (y ∷ items)) (record { mark = z.span; token = token_of_kind text z.span k })) same (here y.span y.kind k (placed_of text items) (ap (λ (z : Item). z.kind) same ∙ e))
  item_token (y ∷ items) (suc i) x k there e = further y.span (token_of text y.span y.kind) (placed_of text items) _ (item_token items i x k there e)

  kind_of_name : (k : TokenKind) (s : Span) → IsNameToken (token_of_kind text s k) → IsOfName (item.Token k)
  kind_of_name kind.Word s h = inl refl
  kind_of_name (kind.Keyword w) s (inl h) = (let e = h.1 in absurd cc)
  kind_of_name (kind.Keyword w) s (inr (inl e)) = inr (inl (let z : w ≡ Super = cc in λ i. item.Token (kind.Keyword (z i))))
  kind_of_name (kind.Keyword w) s (inr (inr e)) = absurd cc
  kind_of_name (kind.Mark m) s (inl h) = (let e = h.1 in absurd cc)
  kind_of_name (kind.Mark m) s (inr (inl e)) = absurd cc
  kind_of_name (kind.Mark m) s (inr (inr e)) = inr (inr (inl (let z : m ≡ Dot = cc in λ i. item.Token (kind.Mark (z i)))))
  kind_of_name (kind.Int n) s (inl h) = (let e = h.1 in absurd cc)
  kind_of_name (kind.Int n) s (inr (inl e)) = absurd cc
  kind_of_name (kind.Int n) s (inr (inr e)) = absurd cc
  kind_of_name kind.Text s (inl h) = (let e = h.1 in absurd cc)
  kind_of_name kind.Text s (inr (inl e)) = absurd cc
  kind_of_name kind.Text s (inr (inr e)) = absurd cc

-- ---- no token begins or ends inside an item

end_behind : (front : List Item) (i : Item) → end_of (front ++ i ∷ []) ≡ i.span.to
end_behind front i = fold-append (λ (n : ℕ) (x : Item). x.span.to) 0 front (i ∷ [])

at_token : (s : Span) (t : Option Token) (rest : Tokens) (k : ℕ) → Bounds (with_placed s t rest) k → ((k ≡ s.from) ⊎ (k ≡ s.to)) ⊎ Bounds rest k
at_token s None rest k h = inr h
at_token s (Some t) rest k (inl e) = inl (inl e)
at_token s (Some t) rest k (inr (inl e)) = inl (inr e)
at_token s (Some t) rest k (inr (inr h)) = inr h

module _ (text : List ℕ) (placed : ItemsPlaced) where
  behind_it : (front : List Item) (i : Item) (items : List Item) → Lexes text (front ++ i ∷ items) → Lexes text ((front ++ i ∷ []) ++ items)
  behind_it front i items lexes = subst (Lexes text) (sym (append_assoc front (i ∷ []) items)) lexes

  -- what is behind begins where what is in front ends
  bounds_late : (front items : List Item) → Lexes text (front ++ items) → (k : ℕ) → Bounds (placed_of text items) k → end_of front ≤ k
  bounds_late front [] lexes k b = absurd b
  bounds_late front (i ∷ items) lexes k b = by (at_token i.span (token_of text i.span i.kind) (placed_of text items) k b) (bounds_late (front ++ i ∷ []) items (behind_it front i items lexes) k)
    where
      by : ((k ≡ i.span.from) ⊎ (k ≡ i.span.to)) ⊎ Bounds (placed_of text items) k → (Bounds (placed_of text items) k → end_of (front ++ i ∷ []) ≤ k) → end_of front ≤ k
      by (inl (inl e)) rest = let from = (placed text front i items lexes).1 in omega arith
      by (inl (inr e)) rest = let is = placed text front i items lexes in let from = is.1 in let some = is.0.some in omega arith
      by (inr h) rest =
          let is = placed text front i items lexes in
          let from = is.1 in
          let some = is.0.some in
          let ends = end_behind front i in
          let late = rest h in
          omega arith

  items_late : (front items : List Item) → Lexes text (front ++ items) → (n : ℕ) (x : Item) → slice_get items n ≡ Some x → end_of front ≤ x.span.from
  items_late front [] lexes n x e = absurd (none-some x e)
  items_late front (i ∷ items) lexes zero x e = let from = (placed text front i items lexes).1 in let same = ap (λ (y : Item). y.span.from) (same_Some i x e) in omega arith
  items_late front (i ∷ items) lexes (suc n) x e =
      let is = placed text front i items lexes in
      let behind = items_late (front ++ i ∷ []) items (behind_it front i items lexes) n x e in
      let ends = end_behind front i in
      let some = is.0.some in
      let from = is.1 in
      omega arith

  no_inside : (front items : List Item) → Lexes text (front ++ items) → (n : ℕ) (x : Item) → slice_get items n ≡ Some x → (k : ℕ) → Bounds (placed_of text items) k → x.span.from < k → k < x.span.to → ⊥
  no_inside front [] lexes n x e k b above below = absurd b
  no_inside front (i ∷ items) lexes zero x e k b above below = by (at_token i.span (token_of text i.span i.kind) (placed_of text items) k b)
    where
      by : ((k ≡ i.span.from) ⊎ (k ≡ i.span.to)) ⊎ Bounds (placed_of text items) k → ⊥
      by (inl (inl f)) = let same = ap (λ (y : Item). y.span.from) (same_Some i x e) in omega arith
      by (inl (inr f)) = let same = ap (λ (y : Item). y.span.to) (same_Some i x e) in omega arith
      by (inr h) =
          let same = ap (λ (y : Item). y.span.to) (same_Some i x e) in
          let ends = end_behind front i in
          let rest = bounds_late (front ++ i ∷ []) items (behind_it front i items lexes) k h in
          omega arith
  no_inside front (i ∷ items) lexes (suc n) x e k b above below = by (at_token i.span (token_of text i.span i.kind) (placed_of text items) k b) (λ h. no_inside (front ++ i ∷ []) items (behind_it front i items lexes) n x e k h above below)
    where
      late : i.span.to ≤ x.span.from
      late = let ends = end_behind front i in let behind = items_late (front ++ i ∷ []) items (behind_it front i items lexes) n x e in omega arith

      by : ((k ≡ i.span.from) ⊎ (k ≡ i.span.to)) ⊎ Bounds (placed_of text items) k → (Bounds (placed_of text items) k → ⊥) → ⊥
      by (inl (inl f)) rest = let first = late in let some = (placed text front i items lexes).0.some in omega arith
      by (inl (inr f)) rest = let first = late in omega arith
      by (inr h) rest = rest h

  pub on_names : (items : List Item) → Lexes text items → (s : Span) → OnNames (placed_of text items) s → IsOnNames items s
  on_names items lexes s on i x there meet = (begins (cases_order x.span.from s.from), (ends (cases_order s.to x.span.to), of x.kind refl))
    where
      begins : (x.span.from ≡ s.from) ⊎ ((x.span.from < s.from) ⊎ (s.from < x.span.from)) → s.from ≤ x.span.from
      begins (inl e) = omega arith
      begins (inr (inl less)) = absurd (no_inside [] items lexes i x there s.from on.from less meet.1)
      begins (inr (inr less)) = omega arith

      ends : (s.to ≡ x.span.to) ⊎ ((s.to < x.span.to) ⊎ (x.span.to < s.to)) → x.span.to ≤ s.to
      ends (inl e) = omega arith
      ends (inr (inl less)) = absurd (no_inside [] items lexes i x there s.to on.to meet.0 less)
      ends (inr (inr less)) = omega arith

      of : (k : ItemKind) → x.kind ≡ k → IsOfName x.kind
      of item.Blank e = inr (inr (inr (inl e)))
      of item.Comment e = inr (inr (inr (inr e)))
      of (item.Token k) e = subst IsOfName (sym e) (kind_of_name text k x.span (on.names (record { mark = x.span; token = token_of_kind text x.span k }) (item_token text items i x k there e) meet))
