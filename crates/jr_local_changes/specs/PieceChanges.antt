-- The changes of the expression that extract local moves.
use Rattle.std.specs.Prelude.{ℕ, ◌≤◌, List, length}
use Rattle.std.specs.List.{All}
use Rattle.jr_text.specs.declared.spans.Span.{Span}
use Rattle.jr_text.specs.Spans.{CanCut}
use Rattle.jr_lex.specs.declared.items.Item.{Item}
use Rattle.jr_lex.specs.Lexes.{Lexes}
use Rattle.jr_ast.specs.Tree as tree
use Rattle.jr_ast.specs.Marks.{exp_mark, stmt_mark}
use Rattle.jr_grammar.specs.Layout.{itself}
use Rattle.jr_bind.specs.Programs.{Program, IsProgram}
use Rattle.jr_rewrite.specs.Respellings.{Change}
use Rattle.jr_rewrite.specs.Rewritten.{Rewritten}
use Rattle.jr_rewrite.specs.Woven.{Fit}
use Rattle.jr_local.specs.Texts.{HasText}
use Rattle.jr_local.specs.Selecting.{Selected, element}
use Rattle.jr_local.specs.Extracted.{Moves}

-- the span can be cut out of the text, with these changes of its own
pub record PieceFits (text : List ℕ) (piece : Span) (changes : List Change) : Type 0 where
  pub cut : CanCut text piece
  pub fit : Fit piece.from text changes
  pub within : All (λ (change : Change). change.span.to ≤ piece.to) changes

-- the statement begins in the text, and the expression fits by whatever changes it moves
pub record SelectedFits (p : Program Span) (file from to : ℕ) (name text : List ℕ)
    (x : Selected p file from to) : Type 0 where
  pub begins : (stmt_mark (element x).stmt).from ≤ length text
  pub piece : (o : Rewritten (tree.Exp Span)) → Moves p file from to name x o
      → PieceFits text (exp_mark x.value) o.changes

abbrev pub PiecesFit : Type 0
PiecesFit = (p : Program Span) → IsProgram itself (λ m b. Unit {0}) p → (file from to : ℕ)
    (name : List ℕ) (x : Selected p file from to) (text : List ℕ) (items : List Item)
    → HasText p file text → Lexes text items → SelectedFits p file from to name text x
