use Rattle.std.proofs.Common.{◌≡◌, ◌⊎◌, ◌++◌, ◌∷◌, [], ℕ, List, refl, sym, ap, subst, ◌∙◌, inl, inr, append_assoc}
use Rattle.jr_text.specs.declared.spans.Span.{Span}
use Rattle.jr_lex.specs.declared.faults.LexFault.{LexFault}
use Rattle.jr_lex.specs.declared.faults.LexFault.TheVariants as lexical
use Rattle.jr_lex.specs.declared.items.Item.{Item}
use Rattle.jr_lex.specs.Depth.{IsFirstBeyond, AreWithin}
use Rattle.jr_ast.specs.MemberTree.{Unit as UnitTree}
use Rattle.jr_punit_laws.specs.Parsing.{IsUnitOf, IsNoUnitAt}
use Rattle.jr_sources.specs.declared.faults.ReadingFault.{ReadingFault}
use Rattle.jr_sources.specs.ReadingFaults.{IsLexical, HasFault, ReadsAs, first_token_at}
use Rattle.jr_sources.proofs.reading_laws.text_has_one_reading.Goals as goal

-- no items are within the limits and beyond them
never_beyond : (items : List Item) (at : ℕ) → AreWithin items → IsFirstBeyond items at → ⊥
never_beyond items at within h = within (h.front ++ h.last ∷ []) h.rest (h.parts ∙ sym (append_assoc h.front (h.last ∷ []) h.rest)) h.beyond

-- two ways to cut a list at an item: at one place, or the one behind the other
fronts : (f g : List Item) (x y : Item) (r s : List Item) → f ++ x ∷ r ≡ g ++ y ∷ s
    → (x ≡ y) ⊎ (((m : List Item) × (g ≡ (f ++ x ∷ []) ++ m)) ⊎ ((m : List Item) × (f ≡ (g ++ y ∷ []) ++ m)))
fronts [] [] x y r s e = inl cc
fronts [] (b ∷ g) x y r s e = let head : x ≡ b = cc in inr (inl (g, λ i. sym head i ∷ g))
fronts (a ∷ f) [] x y r s e = let head : a ≡ y = cc in inr (inr (f, λ i. head i ∷ f))
fronts (a ∷ f) (b ∷ g) x y r s e =
    let head : a ≡ b = cc in
    let tail : f ++ x ∷ r ≡ g ++ y ∷ s = cc in
    elim (fronts f g x y r s tail) [
      | inl same ↦ inl same
      | inr (inl more) ↦ inr (inl (more.0, λ i. sym head i ∷ more.1 i))
      | inr (inr more) ↦ inr (inr (more.0, λ i. head i ∷ more.1 i))
    ]

one_beyond : (items : List Item) (a b : ℕ) → IsFirstBeyond items a → IsFirstBeyond items b → a ≡ b
one_beyond items a b g h = elim (fronts g.front h.front g.last h.last g.rest h.rest (sym g.parts ∙ h.parts)) [
  | inl same ↦ g.place ∙ ap (λ (i : Item). i.span.from) same ∙ sym h.place
  | inr (inl more) ↦ absurd (h.within (g.front ++ g.last ∷ []) more.0 more.1 g.beyond)
  | inr (inr more) ↦ absurd (g.within (h.front ++ h.last ∷ []) more.0 more.1 h.beyond)
]

one_fault : (f g : ReadingFault) → f.at ≡ g.at → f.kind ≡ g.kind → f ≡ g
one_fault f g at kind = λ i. record { at = at i; kind = kind i }

one_lexical : (l : LexFault) (f g : ReadingFault) → IsLexical l f → IsLexical l g → f ≡ g
one_lexical (lexical.BadByte at) f g x y = one_fault f g (x.0 ∙ sym y.0) (x.1 ∙ sym y.1)
one_lexical (lexical.OpenComment at) f g x y = one_fault f g (x.0 ∙ sym y.0) (x.1 ∙ sym y.1)
one_lexical (lexical.OpenString at) f g x y = one_fault f g (x.0 ∙ sym y.0) (x.1 ∙ sym y.1)
one_lexical (lexical.Escape at) f g x y = one_fault f g (x.0 ∙ sym y.0) (x.1 ∙ sym y.1)
one_lexical (lexical.BadNumber at) f g x y = one_fault f g (x.0 ∙ sym y.0) (x.1 ∙ sym y.1)
one_lexical lexical.Memory f g x y = absurd x

pub returns : goal.returns
returns c = record {
  unit = λ text u v w x a b.
      let same : a.items ≡ b.items = c.one_answer.ensures.items text a.items b.items a.lexes b.lexes in (
        c.unit_has_one_answer.ensures.unit text b.items u v (subst (λ (is : List Item). IsUnitOf text is u) same a.is) b.is,
        a.begins ∙ ap first_token_at same ∙ sym b.begins,
      );
  fault = λ text f g x y. one text f g x y;
  never_both = λ text u w f a. never text u w f a;
}
  where
    one : (text : List ℕ) (f g : ReadingFault) → HasFault text f → HasFault text g → f ≡ g
    one text f g (inl x) (inl y) = one_lexical y.fault f g (subst (λ (l : LexFault). IsLexical l f) (c.one_answer.ensures.fault text x.fault y.fault x.first y.first) x.told) y.told
    one text f g (inl x) (inr (inl y)) = absurd (c.one_answer.ensures.never_both text y.items x.fault y.lexes x.first)
    one text f g (inl x) (inr (inr y)) = absurd (c.one_answer.ensures.never_both text y.items x.fault y.lexes x.first)
    one text f g (inr (inl x)) (inl y) = absurd (c.one_answer.ensures.never_both text x.items y.fault x.lexes y.first)
    one text f g (inr (inr x)) (inl y) = absurd (c.one_answer.ensures.never_both text x.items y.fault x.lexes y.first)
    one text f g (inr (inl x)) (inr (inl y)) =
        let same : x.items ≡ y.items = c.one_answer.ensures.items text x.items y.items x.lexes y.lexes in
        one_fault f g (one_beyond y.items f.at g.at (subst (λ (is : List Item). IsFirstBeyond is f.at) same x.first) y.first) (x.told ∙ sym y.told)
    one text f g (inr (inl x)) (inr (inr y)) =
        let same : x.items ≡ y.items = c.one_answer.ensures.items text x.items y.items x.lexes y.lexes in
        absurd (never_beyond y.items f.at y.within (subst (λ (is : List Item). IsFirstBeyond is f.at) same x.first))
    one text f g (inr (inr x)) (inr (inl y)) =
        let same : y.items ≡ x.items = c.one_answer.ensures.items text y.items x.items y.lexes x.lexes in
        absurd (never_beyond x.items g.at x.within (subst (λ (is : List Item). IsFirstBeyond is g.at) same y.first))
    one text f g (inr (inr x)) (inr (inr y)) =
        let same : x.items ≡ y.items = c.one_answer.ensures.items text x.items y.items x.lexes y.lexes in
        one_fault f g (c.unit_has_one_answer.ensures.place text y.items f.at g.at (subst (λ (is : List Item). IsNoUnitAt text is f.at) same x.stops) y.stops) (x.told ∙ sym y.told)

    never : (text : List ℕ) (u : UnitTree Span) (w : ℕ) (f : ReadingFault) → ReadsAs text u w → HasFault text f → ⊥
    never text u w f a (inl h) = c.one_answer.ensures.never_both text a.items h.fault a.lexes h.first
    never text u w f a (inr (inl h)) =
        let same : h.items ≡ a.items = c.one_answer.ensures.items text h.items a.items h.lexes a.lexes in
        never_beyond a.items f.at a.within (subst (λ (is : List Item). IsFirstBeyond is f.at) same h.first)
    never text u w f a (inr (inr h)) =
        let same : h.items ≡ a.items = c.one_answer.ensures.items text h.items a.items h.lexes a.lexes in
        c.unit_has_one_answer.ensures.never_both text a.items u f.at a.is (subst (λ (is : List Item). IsNoUnitAt text is f.at) same h.stops)
