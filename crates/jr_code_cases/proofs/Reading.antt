-- A tree without marks that spells a text's tokens, with the spans that its nodes have there.
use Rattle.std.proofs.Common.{◌≡◌, ℕ, List, [], length, Option, Some, None, true, refl, sym, subst, ◌∙◌}
use Rattle.std.specs.Prelude.{unwrap_or, is_some}
use Rattle.std.proofs.Math.Utf8.{scalars}
use Rattle.jr_text.specs.declared.spans.Span.{Span}
use Rattle.jr_lex.specs.declared.items.Item.{Item}
use Rattle.jr_ast.specs.MemberTree.{Unit as UnitTree}
use Rattle.jr_grammar.specs.Tokens.{placed_of, tokens_of}
use Rattle.jr_grammar.specs.Bare.{Bare, bare_unit, no_mark}
use Rattle.jr_grammar.specs.Layout.{Layouts, itself}
use Rattle.jr_grammar.specs.Stands.{Tokens, StandInOrder}
use Rattle.jr_grammar.specs.MemberLayout.{unit_layouts}
use Rattle.jr_grammar.specs.MemberSpelling.{unit_toks}
use Rattle.jr_grammar.specs.MemberShape.{UnitShaped}
use Rattle.jr_grammar.specs.Reads.{ReadsWithSpans}
use Rattle.jr_grammar.proofs.Cases.Scanned.{are_ascii, cut, lexes}
use Rattle.jr_grammar.proofs.Layouts.{lay_all, lay_stand, all_spans_from-span}
use Rattle.jr_grammar.proofs.MemberLayouts.{unit_laid}
use Rattle.jr_grammar.proofs.MemberMarks.{unit_at, unit_stays, unit_bare}
use Rattle.jr_grammar.proofs.Marked.{stands_spells}
use Rattle.jr_grammar.proofs.Remarked.{holds_alike}
use Rattle.jr_grammar.proofs.RemarkedShape.{UnitShaped-map}

abbrev pub items : List ℕ → List Item
items text = unwrap_or (cut (length text) 0 text) []

abbrev pub placed : List ℕ → Tokens
placed text = placed_of text (items text)

abbrev pub file_span : List ℕ → Span
file_span text = record { from = 0; to = length text }

-- the tree, each node with its span
abbrev pub marked : List ℕ → UnitTree Bare → UnitTree Span
marked text tree = unit_at (file_span text) tree (lay_all (unit_layouts tree) (placed text))

there : {X : Type 0} (o : Option X) (d : X) → is_some o ≡ true → o ≡ Some (unwrap_or o d)
there None d e = absurd cc
there (Some x) d e = refl

module _ (text : List ℕ) (tree : UnitTree Bare) (ascii : are_ascii text ≡ true) (utf8 : scalars text ≡ true) (cuts : is_some (cut (length text) 0 text) ≡ true) (shape : UnitShaped tree) (spells : unit_toks tree ≡ tokens_of text (items text)) where
  stands : StandInOrder (unit_layouts (marked text tree)) (placed text)
  stands = subst (λ (xs : Layouts Span). StandInOrder xs (placed text)) (sym (unit_stays (file_span text) tree (placed text))) (lay_stand (unit_layouts tree) (placed text) (sym spells ∙ sym (unit_laid tree)))

  bare_is : bare_unit (marked text tree) ≡ tree
  bare_is = unit_bare (file_span text) tree (lay_all (unit_layouts tree) (placed text))

  shaped : UnitShaped (marked text tree)
  shaped = (holds_alike (UnitShaped (bare_unit (marked text tree))) (UnitShaped (marked text tree)) (UnitShaped-map no_mark (marked text tree))).0 (subst (λ (u : UnitTree Bare). UnitShaped u) (sym bare_is) shape)

  pub reads : ReadsWithSpans itself text (marked text tree)
  reads = record {
    items = items text;
    lexes = lexes text (items text) ascii utf8 (there (cut (length text) 0 text) [] cuts);
    is = record { shaped = shaped; spells = stands_spells.unit (marked text tree) (placed text) stands };
    spans = subst (λ (xs : Layouts Span). StandInOrder xs (placed text)) (sym (all_spans_from-span 0 (unit_layouts (marked text tree)))) stands;
    file = refl;
  }
