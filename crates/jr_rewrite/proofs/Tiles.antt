-- The items of a text with their bytes, one behind the other.
use Rattle.std.proofs.Common.{◌≡◌, ℕ, ◌+◌, List, [], ◌∷◌, ◌++◌, length, true, refl, sym, ap, ◌∙◌, subst}
use Rattle.std.specs.Prelude.{encode_utf8_all}
use Rattle.std.specs.Str.{IsUtf8, chars}
use Rattle.std.proofs.lemmas.Str.{encodes-append, encodes-chars, scalars-chars, chars-encodes, IsUtf8-nil, IsUtf8-append}
use Rattle.std.proofs.Math.Utf8.{scalars}
use Rattle.jr_text.specs.declared.spans.Span.{Span}
use Rattle.jr_lex.specs.declared.items.Item.{Item}
use Rattle.jr_lex.specs.Lexes.{Lexes, Cuts, IsEnd, IsItemAt}
use Rattle.jr_lex.proofs.ReplaceLaws.{scalars_parts}
use Rattle.jr_lex.specs.Near.{IsCut}
use Rattle.jr_rewrite.specs.Woven.{Fronts, MayFront, Fronted, Tiled}
use Rattle.jr_lex.proofs.OneLexeme.{item_cut}

cuts_tiled : (F : Fronts) (at : ℕ) (cs : List ℕ) (items : List Item) → scalars cs ≡ true → Fronted F items → Cuts IsEnd at cs items → Tiled F at (encode_utf8_all cs) items
cuts_tiled F at cs [] s g h = ap encode_utf8_all h
cuts_tiled F at cs (item ∷ items) s g h =
    let front = h.0 in
    let rest = h.1 in
    let e : cs ≡ front ++ rest = h.2.taken.parts in
    let parts = scalars_parts front rest (ap scalars (sym e) ∙ s) in
    let here : IsCut item.kind front rest = item_cut at item front rest (subst (λ t. IsItemAt at t item front rest) e h.2) in (
      encode_utf8_all front,
      encode_utf8_all rest,
      ap encode_utf8_all e ∙ encodes-append front rest,
      record {
        place = h.2.place;
        is_text = (front, (parts.0, refl));
        cut = subst (λ f. IsCut item.kind f (chars (encode_utf8_all rest))) (sym (chars-encodes front parts.0)) (subst (IsCut item.kind front) (sym (chars-encodes rest parts.1)) here);
        fronts = subst (λ n. MayFront F n item.kind) (ap (λ (x : Span). x.to) h.2.place) g.0;
      },
      cuts_tiled F (at + length (encode_utf8_all front)) rest items parts.1 g.1 h.3,
    )

-- the items of a text take its bytes
pub lexes_tiled : (F : Fronts) (text : List ℕ) (items : List Item) → Fronted F items → Lexes text items → Tiled F 0 text items
lexes_tiled F text items g h = subst (λ bs. Tiled F 0 bs items) (encodes-chars text h.is_text) (cuts_tiled F 0 (chars text) items (scalars-chars text h.is_text) g h.cut)

-- the bytes of items are a text
pub tiled_text : (F : Fronts) (at : ℕ) (bytes : List ℕ) (items : List Item) → Tiled F at bytes items → IsUtf8 bytes
tiled_text F at bytes [] t = subst IsUtf8 (sym t) IsUtf8-nil
tiled_text F at bytes (item ∷ items) t = subst IsUtf8 (sym t.2) (IsUtf8-append t.0 t.1 t.3.is_text (tiled_text F (at + length t.0) t.1 items t.4))
