-- What holds of each tree that a text reads as.
use Rattle.std.proofs.Common.{◌≡◌, ℕ, List, sym, ap, subst, ◌∙◌, length}
use Rattle.jr_text.specs.declared.spans.Span.{Span}
use Rattle.jr_lex.specs.declared.items.Item.{Item}
use Rattle.jr_lex.specs.Lexes.{Lexes}
use Rattle.jr_lex.specs.Places.{ItemsPlaced}
use Rattle.jr_grammar.specs.Tokens.{Token, placed_of, tokens_of}
use Rattle.jr_grammar.specs.Spelling.{toks}
use Rattle.jr_grammar.specs.StatementSpelling.{stmt_toks}
use Rattle.jr_grammar.specs.MemberSpelling.{member_toks, unit_toks}
use Rattle.jr_grammar.specs.Shape.{Shaped}
use Rattle.jr_grammar.specs.StatementShape.{StmtShaped}
use Rattle.jr_grammar.specs.MemberShape.{MemberShaped, UnitShaped}
use Rattle.jr_grammar.specs.Bare.{Bare, no_mark}
use Rattle.jr_grammar.specs.Layout.{Layout, Layouts, itself, spans_from, all_spans_from}
use Rattle.jr_grammar.specs.Stands.{Tokens, Stands, StandInOrder}
use Rattle.jr_grammar.specs.ExpressionLayout.{exp_layout}
use Rattle.jr_grammar.specs.StatementLayout.{stmt_layout}
use Rattle.jr_grammar.specs.MemberLayout.{member_layout, unit_layouts}
use Rattle.jr_grammar.specs.Lexical.{AreLexical}
use Rattle.jr_grammar.specs.MarksAreOne.{TellsApart}
use Rattle.jr_grammar.specs.ReadLaws.{ReadsAreGrammar, SpansAreOne, SpansAreThere}
use Rattle.jr_grammar.proofs.Layouts.{spans_from-span, all_spans_from-span}
use Rattle.jr_grammar.proofs.Marked.{one_expression, one_statement, one_member, one_unit, marks_are_there}
use Rattle.jr_grammar.proofs.Lexical.{tokens_lexical}
use Rattle.jr_grammar.proofs.Remarked.{expression_ignores_marks}
use Rattle.jr_grammar.proofs.RemarkedShape.{statement_ignores_marks, member_ignores_marks, unit_ignores_marks}

-- ---- a tree of the grammar

lexical : ItemsPlaced → (bytes : List ℕ) (items : List Item) (tokens : List Token) → Lexes bytes items → tokens ≡ tokens_of bytes items → AreLexical tokens
lexical placed bytes items tokens h e = subst AreLexical (sym e) (tokens_lexical placed bytes h.is_text items h)

pub reads_are_grammar : {A : Type 0} → ItemsPlaced → ReadsAreGrammar A
reads_are_grammar placed = record {
  unit = λ bytes u h. record { shaped = h.is.shaped; lexical = lexical placed bytes h.items (unit_toks u) h.lexes h.is.spells };
  member = λ nested name bytes d h. record { shaped = h.is.shaped; lexical = lexical placed bytes h.items (member_toks d) h.lexes h.is.spells };
  statement = λ bytes s h. record { shaped = h.is.shaped; lexical = lexical placed bytes h.items (stmt_toks s) h.lexes h.is.spells };
  expression = λ bytes e h. record { shaped = h.is.shaped; lexical = lexical placed bytes h.items (toks e) h.lexes h.is.spells };
}

-- ---- spans

-- a text has one list of items
abbrev pub OneCut : Type 0
OneCut = (bytes : List ℕ) (items others : List Item) → Lexes bytes items → Lexes bytes others → items ≡ others

-- the tokens of two lists of items of one text
same : OneCut → (bytes : List ℕ) (items others : List Item) → Lexes bytes items → Lexes bytes others → placed_of bytes items ≡ placed_of bytes others
same cut bytes items others h k = ap (placed_of bytes) (cut bytes items others h k)

module _ {A : Type 0} (tells : A → ℕ → Span) (apart : TellsApart tells) (cut : OneCut) where
  stands_there : (x : Layout A) (ps qs : Tokens) → ps ≡ qs → Stands (spans_from tells 0 x) ps → Stands (spans_from tells 0 x) qs
  stands_there x ps qs e h = subst (Stands (spans_from tells 0 x)) e h

  pub spans_are_one : SpansAreOne tells
  spans_are_one = record {
    unit = λ bytes a b e h k.
        one_unit tells apart a b (placed_of bytes k.items) (apart a.mark b.mark 0 (h.file ∙ sym k.file)) e
        (subst (StandInOrder (all_spans_from tells 0 (unit_layouts a))) (same cut bytes h.items k.items h.lexes k.lexes) h.spans) k.spans;
    member = λ nested name bytes a b e h k.
        one_member tells apart a b (placed_of bytes k.items) e (stands_there (member_layout a) _ _ (same cut bytes h.items k.items h.lexes k.lexes) h.spans) k.spans;
    statement = λ bytes a b e h k. one_statement tells apart a b (placed_of bytes k.items) e (stands_there (stmt_layout a) _ _ (same cut bytes h.items k.items h.lexes k.lexes) h.spans) k.spans;
    expression = λ bytes a b e h k. one_expression tells apart a b (placed_of bytes k.items) e (stands_there (exp_layout a) _ _ (same cut bytes h.items k.items h.lexes k.lexes) h.spans) k.spans;
  }

told : (x : Layout Span) (ps : Tokens) → Stands x ps → Stands (spans_from itself 0 x) ps
told x ps h = subst (λ (y : Layout Span). Stands y ps) (sym (spans_from-span 0 x)) h

pub spans_are_there : SpansAreThere
spans_are_there = record {
  unit = λ bytes u h.
      let m = marks_are_there.unit (record { from = 0; to = length bytes }) u (placed_of bytes h.items) h.is.spells in
      let g = unit_ignores_marks {A = Span} {B = Bare} in (
        m.0,
        m.2,
        record {
          items = h.items;
          lexes = h.lexes;
          is = record { shaped = (g.shape no_mark m.0).0 (subst UnitShaped (sym m.2) h.is.shaped); spells = sym (g.spelling no_mark m.0) ∙ ap unit_toks m.2 ∙ h.is.spells };
          spans = subst (λ (ys : Layouts Span). StandInOrder ys (placed_of bytes h.items)) (sym (all_spans_from-span 0 (unit_layouts m.0))) m.3;
          file = m.1;
        },
      );
  member = λ nested name bytes d h.
      let m = marks_are_there.member d (placed_of bytes h.items) h.is.spells in
      let g = member_ignores_marks {A = Span} {B = Bare} in (
        m.0,
        m.1,
        record {
          items = h.items;
          lexes = h.lexes;
          is = record { shaped = (g.shape no_mark nested name m.0).0 (subst (MemberShaped nested name) (sym m.1) h.is.shaped); spells = sym (g.spelling no_mark m.0) ∙ ap member_toks m.1 ∙ h.is.spells };
          spans = told (member_layout m.0) (placed_of bytes h.items) m.2;
        },
      );
  statement = λ bytes s h.
      let m = marks_are_there.statement s (placed_of bytes h.items) h.is.spells in
      let g = statement_ignores_marks {A = Span} {B = Bare} in (
        m.0,
        m.1,
        record {
          items = h.items;
          lexes = h.lexes;
          is = record { shaped = (g.shape no_mark m.0).0 (subst StmtShaped (sym m.1) h.is.shaped); spells = sym (g.spelling no_mark m.0) ∙ ap stmt_toks m.1 ∙ h.is.spells };
          spans = told (stmt_layout m.0) (placed_of bytes h.items) m.2;
        },
      );
  expression = λ bytes e h.
      let m = marks_are_there.expression e (placed_of bytes h.items) h.is.spells in
      let g = expression_ignores_marks {A = Span} {B = Bare} in (
        m.0,
        m.1,
        record {
          items = h.items;
          lexes = h.lexes;
          is = record { shaped = (g.shape no_mark m.0).0 (subst Shaped (sym m.1) h.is.shaped); spells = sym (g.spelling no_mark m.0) ∙ ap toks m.1 ∙ h.is.spells };
          spans = told (exp_layout m.0) (placed_of bytes h.items) m.2;
        },
      );
}
