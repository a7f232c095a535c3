-- What a search by a span finds in a list of statements: an expression, its way, and what is a
-- function of the way: how it is used, what bars it, and the nearest element of a list.
use Rattle.std.specs.Prelude.{◌≡◌, ◌≢◌, ℕ, List, ◌++◌, Option, Some, None}
use Rattle.jr_text.specs.declared.spans.Span.{Span}
use Rattle.jr_ast.specs.Tree as tree
use Rattle.jr_ast.specs.StatementTree as statement
use Rattle.jr_ast.specs.Marks.{exp_mark}
use Rattle.jr_grammar.specs.Layout.{itself}
use Rattle.jr_pieces.specs.Ways.{ListWay}
use Rattle.jr_pieces.specs.Standings.{Standing}
use Rattle.jr_pieces.specs.Nearest.{nearest}
use Rattle.jr_pieces.specs.Finding.{find_list, list_path}
use Rattle.jr_pieces.specs.Nesting.{ListNested}
use Rattle.jr_pieces.specs.Uses.{Use, list_use}
use Rattle.jr_pieces.specs.Bars.{stmt_barred, list_barred}
use Rattle.jr_piece_search.specs.Sought.{begins, Bars}

-- how far a search has come: to a statement within the first element of a list
pub record Place : Type 0 where
  pub bars : Bars
  pub list : statement.Stmts Span
  pub stmt : statement.Stmt Span

-- an expression, and the list from the nearest element on
pub record Found : Type 0 where
  pub value : tree.Exp Span
  pub usage : Use
  pub bars : Bars
  pub list : statement.Stmts Span

-- The place of an expression in a list, whose elements have numbers from `first` on, with the path
-- to it behind what stood there. Where the list stands isn't asked.
pub record IsPlace (b : statement.Stmts Span) (first : ℕ) (old new : List ℕ) (x : Found) : Type 0
  where
    pub way : ListWay x.value b
    pub path : new ≡ old ++ list_path first way
    pub used : x.usage ≡ list_use way
    pub outer : (base : ℕ) → x.bars.outer ≡ list_barred begins base None way
    pub element : (p : Standing) → x.list
        ≡ statement.more (nearest begins p way).stmt (nearest begins p way).rest
    pub own : (p : Standing) (base : ℕ)
        → x.bars.own ≡ stmt_barred begins base None (nearest begins p way).way

-- what a search in the list answers
abbrev pub IsFound : Span → statement.Stmts Span → (first : ℕ) → (old new : List ℕ)
    → Option Found → Type 0
IsFound s b first old new None = (base : ℕ) → find_list itself s base first b ≡ None
IsFound s b first old new (Some x) = (exp_mark x.value ≡ s) × IsPlace b first old new x

-- Where a search finds nothing in a list with nested spans, no expression in it has the span.
abbrev pub NoneHasTheSpan : Type 0
NoneHasTheSpan = (s whole : Span) (lo first : ℕ) (b : statement.Stmts Span)
    → ListNested itself whole lo b → ((base : ℕ) → find_list itself s base first b ≡ None)
    → (f : tree.Exp Span) → ListWay f b → exp_mark f ≢ s
