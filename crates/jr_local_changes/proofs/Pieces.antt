-- The expression that extract local moves, among the tokens of its file.
use Rattle.std.proofs.Common.{◌≡◌, ℕ, ◌≤◌, false, List, [], ◌∷◌, ◌++◌, length, sym, ap, ◌∙◌, subst, arith}
use Rattle.std.proofs.lemmas.List.{append_assoc, length-append}
use Rattle.jr_text.specs.declared.spans.Span.{Span}
use Rattle.jr_lex.specs.declared.items.Item.{Item}
use Rattle.jr_lex.specs.Lexes.{Lexes}
use Rattle.jr_ast.specs.Tree as tree
use Rattle.jr_ast.specs.Marks.{exp_mark, stmt_mark}
use Rattle.jr_grammar.specs.Tokens.{Placed, placed_of}
use Rattle.jr_grammar.specs.Layout.{itself}
use Rattle.jr_grammar.specs.Stands.{Tokens, first_from, Stands}
use Rattle.jr_grammar.specs.Spelling.{toks}
use Rattle.jr_grammar.specs.ExpressionLayout.{exp_layout}
use Rattle.jr_grammar.proofs.Layouts.{spans_from-span}
use Rattle.jr_table.specs.Context.{Context}
use Rattle.jr_table.specs.Binding.{value}
use Rattle.jr_members.specs.WrittenLaws.{MembersAreWritten}
use Rattle.jr_bind.specs.Programs.{Program, IsProgram}
use Rattle.jr_images.specs.TextLaws.{RowsAreNamed}
use Rattle.jr_images.proofs.SuitableSpelling.{choosing_suits}
use Rattle.jr_rewrite.specs.Rewritten.{Rewritten}
use Rattle.jr_rewrite.specs.Spots.{nowhere}
use Rattle.jr_rewrite.specs.Suitable.{AreSuitable}
use Rattle.jr_rewrite.proofs.Steps.{Stepped}
use Rattle.jr_rewrite.proofs.ExpressionSteps.{exp_steps}
use Rattle.jr_local.specs.Bodies as source
use Rattle.jr_local.specs.Texts.{HasText}
use Rattle.jr_local.specs.Selecting.{Selected, element, at_value}
use Rattle.jr_local.specs.Extracted.{choices, of_piece, Moves}
use Rattle.jr_moved_texts.specs.Moved.{nowhere_weaves}
use Rattle.jr_moved_texts.proofs.Tiling.{text_tiled}
use Rattle.jr_moved_texts.proofs.Boundaries.{FromToken, from_token}
use Rattle.jr_moved_texts.proofs.StandingPieces.{PieceStands, piece_stands}
use Rattle.jr_local_texts.proofs.StandingParts.{Among, LastIs, ListFront, ElementWithin, among_first, stmt_among, stmt_last}
use Rattle.jr_local_texts.proofs.StandingBodies.{exp_mark_is, stmt_mark_is, element_stands}
use Rattle.jr_local_texts.proofs.KeptNames.{rows_named, same_named}
use Rattle.jr_local_changes.specs.PieceChanges.{PieceFits, SelectedFits, PiecesFit}
use Rattle.jr_local_changes.proofs.RunFits.{run_fits}

module _ (written : MembersAreWritten Span) (names : RowsAreNamed Span) (p : Program Span) (program : IsProgram itself (λ m b. Unit {0}) p) (file from to : ℕ) (name : List ℕ) (x : Selected p file from to) (text : List ℕ) (items : List Item)
    (is_text : HasText p file text) (lexes : Lexes text items) where
  abbrev all : Tokens
  all = placed_of text items

  held : ElementWithin (element x) all
  held = element_stands p program written file text items is_text lexes x.body x.has x.way

  -- ---- where the statement begins

  front_begins : (front back : Tokens) → held.among.part ≡ front ++ back → LastIs ListFront front → (stmt_mark (element x).stmt).from ≡ first_from front → (q : Placed Span) × (qs : Tokens) × (held.among.part ≡ q ∷ qs) × ((stmt_mark (element x).stmt).from ≡ q.mark.from)
  front_begins [] back e l m = absurd l
  front_begins (q ∷ qs) back e l m = (q, qs ++ back, e, m)

  from_stmt : (q : Placed Span) × (qs : Tokens) × (held.among.part ≡ q ∷ qs) × ((stmt_mark (element x).stmt).from ≡ q.mark.from)
  from_stmt =
      let h = held.among.stands in
      front_begins h.front h.back h.whole (stmt_last (element x).stmt h.front h.first) (ap (λ (m : Span). m.from) (stmt_mark_is (element x).stmt h.front h.first))

  there : FromToken text 0 text from_stmt.0 (from_stmt.1 ++ held.among.back)
  there = from_token text items 0 text held.among.front from_stmt.0 (from_stmt.1 ++ held.among.back) (text_tiled text items lexes) (held.among.whole ∙ ap (λ y. held.among.front ++ (y ++ held.among.back)) from_stmt.2)

  begins : (stmt_mark (element x).stmt).from ≤ length text
  begins = omega (arith, from_stmt.3, there.stands, ap length there.whole, length-append there.front there.rest)

  -- ---- the expression

  value_among : Among (Stands (exp_layout x.value)) held.among.part
  value_among = among_first held.among.part held.among.stands (stmt_among x.value (element x).stmt (element x).way)

  grouped : (a b c d e : Tokens) → a ++ ((b ++ (c ++ d)) ++ e) ≡ (a ++ b) ++ (c ++ (d ++ e))
  grouped a b c d e = simp append_assoc

  value_whole : all ≡ (held.among.front ++ value_among.front) ++ (value_among.part ++ (value_among.back ++ held.among.back))
  value_whole = held.among.whole ∙ ap (λ y. held.among.front ++ (y ++ held.among.back)) value_among.whole ∙ grouped held.among.front value_among.front value_among.part value_among.back held.among.back

  stands : PieceStands text items x.value
  stands = piece_stands text items x.value (held.among.front ++ value_among.front) value_among.part (value_among.back ++ held.among.back) lexes value_whole value_among.stands

  -- ---- its changes

  suits : AreSuitable (choices p file from to name x (of_piece p file from to name x))
  suits = choosing_suits source.begins p.rows (of_piece p file from to name x) (same_named p.rows (rows_named names p program)) (λ (c : Context). p.super_at c.member)

  module _ (o : Rewritten (tree.Exp Span)) (moves : Moves p file from to name x o) where
    steps : Stepped nowhere_weaves false (stands.first ∷ stands.run) o.changes (toks o.tree)
    steps = exp_steps itself (choices p file from to name x (of_piece p file from to name x)) nowhere nowhere_weaves suits tt (at_value x).context value (at_value x).base x.value o (stands.first ∷ stands.run) moves
        (subst (λ l. Stands l (stands.first ∷ stands.run)) (sym (spans_from-span (at_value x).base (exp_layout x.value))) stands.stands)

    piece_fits : PieceFits text (exp_mark x.value) o.changes
    piece_fits = subst (λ (s : Span). PieceFits text s o.changes) (sym (exp_mark_is x.value (stands.first ∷ stands.run) stands.stands)) (run_fits text stands.first stands.run items o.changes (toks o.tree) stands.place stands.behind steps)

  pub selected_fits : SelectedFits p file from to name text x
  selected_fits = record { begins = begins; piece = λ o moves. piece_fits o moves }

pub pieces_fit : MembersAreWritten Span → RowsAreNamed Span → PiecesFit
pieces_fit written names p program file from to name x text items is_text lexes = selected_fits written names p program file from to name x text items is_text lexes
