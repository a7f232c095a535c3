-- The path of an expression of a body, by its bytes.
use Rattle.std.specs.Prelude.{◌≡◌, ℕ, List}
use Rattle.jr_text.specs.declared.spans.Span.{Span}
use Rattle.jr_ast.specs.Tree as tree
use Rattle.jr_ast.specs.StatementTree as statement
use Rattle.jr_ast.specs.Marks.{exp_mark}
use Rattle.jr_grammar.specs.Layout.{itself}
use Rattle.jr_pieces.specs.Ways.{ListWay}
use Rattle.jr_pieces.specs.Finding.{list_path}
use Rattle.jr_pieces.specs.Nesting.{ListNested}

-- where spans are nested, of each expression that has the span
abbrev pub IsPathOf : statement.Stmts Span → (front : ℕ) → Span → (path : List ℕ) → Type 0
IsPathOf b front s path = (whole : Span) (lo : ℕ) → ListNested itself whole lo b
    → (e : tree.Exp Span) (way : ListWay e b) → exp_mark e ≡ s → path ≡ list_path front way
