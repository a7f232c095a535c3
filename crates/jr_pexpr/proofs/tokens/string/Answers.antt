use Rattle.std.proofs.Common.{◌≡◌, ◌+◌, ◌≤◌, ◌-◌, ℕ, List, sym, ap, subst, ◌∙◌, arith}
use Rattle.std.specs.Str.{IsUtf8, IsCharBoundary, chars}
use Rattle.jr_text.specs.Spans.{part_of}
use Rattle.jr_text.specs.Texts.{IsText}
use Rattle.jr_lex.specs.declared.items.Item.{Item}
use Rattle.jr_lex.specs.declared.items.ItemKind.{ItemKind}
use Rattle.jr_lex.specs.declared.items.ItemKind.TheVariants.{Token}
use Rattle.jr_lex.specs.declared.items.TokenKind.TheVariants.{Text}
use Rattle.jr_lex.specs.Lexemes.{IsLexeme}
use Rattle.jr_lex.specs.Places.{IsPlaced}
use Rattle.jr_lex.specs.Strings.{IsString}
use Rattle.jr_pexpr.proofs.Quotes.{cut_inside}
use Rattle.jr_pexpr.proofs.tokens.string.Goals as goal

inner : (bytes whole : List ℕ) (item : Item) → IsText bytes → whole ≡ bytes → IsPlaced bytes item → item.kind ≡ Token Text
    → (item.span.from + 2 ≤ item.span.to) × IsCharBoundary whole (item.span.from + 1) × IsCharBoundary whole (item.span.to - 1)
inner bytes whole item t e p k =
    subst (λ (b : List ℕ). (item.span.from + 2 ≤ item.span.to) × IsCharBoundary b (item.span.from + 1) × IsCharBoundary b (item.span.to - 1)) (sym e)
    (cut_inside bytes item.span t.utf8 p.cut (subst (λ (kind : ItemKind). IsLexeme kind (chars (part_of bytes item.span))) k p.lexeme))

pub range-requires-clause-start_le_end : goal.range-requires-clause-start_le_end
range-requires-clause-start_le_end c =
    let h = inner c.args.text.now c.as_str.result.now c.args.item.now c.as_str.ensures.valid c.as_str.ensures.whole c.requires.placed c.requires.kind in
    omega (arith, h.0)

pub range-requires-clause-start_boundary : goal.range-requires-clause-start_boundary
range-requires-clause-start_boundary c =
    let h = inner c.args.text.now c.as_str.result.now c.args.item.now c.as_str.ensures.valid c.as_str.ensures.whole c.requires.placed c.requires.kind in
    λ _. h.1

pub range-requires-clause-end_boundary : goal.range-requires-clause-end_boundary
range-requires-clause-end_boundary c =
    let h = inner c.args.text.now c.as_str.result.now c.args.item.now c.as_str.ensures.valid c.as_str.ensures.whole c.requires.placed c.requires.kind in
    h.2
