-- The nearest element of an expression in a list.
use Rattle.std.specs.Prelude.{◌≡◌, ℕ, None}
use Rattle.jr_text.specs.declared.spans.Span.{Span}
use Rattle.jr_ast.specs.Tree as tree
use Rattle.jr_ast.specs.StatementTree as statement
use Rattle.jr_ast.specs.Marks.{exp_mark}
use Rattle.jr_table.specs.Context.{Context, in_own, local_of}
use Rattle.jr_pieces.specs.Ways.{StmtWay, ListWay}
use Rattle.jr_pieces.specs.Standings.{Standing, at_stmt, at_list}
use Rattle.jr_pieces.specs.Nearest.{Element, element_within, nearest}
use Rattle.jr_pieces.specs.Bars.{stmt_barred}
use Rattle.jr_bodies.specs.Bodies.{begins}
use Rattle.jr_bodies.specs.BodyLaws.{IsNested}

-- what is known in the initializer of the local that a statement declares, if it does
abbrev pub entered : {A : Type 0} → (next : ℕ) → statement.Stmt A → Context → Context
entered n (statement.local m is_final t w e) c = in_own c (local_of c n is_final t w)
entered n (statement.eval m e) c = c
entered n (statement.branch m e s o) c = c
entered n (statement.loop m e s) c = c
entered n (statement.return m e) c = c
entered n (statement.block m b) c = c
entered n (statement.sync m e b) c = c
entered n (statement.empty m) c = c

-- The expression stands in it where it stands in the list, its way from there meets no further list,
-- and where nothing bars it there what is known at the element is known, or in its initializer.
pub record HoldsIt {A : Type 0} (begins : A → ℕ → ℕ) (there : Standing) {f : tree.Exp A}
    (x : Element f) : Type 0 where
  pub at : at_stmt begins x.at x.way ≡ there
  pub last : element_within begins x.at x.way ≡ None
  pub straight : stmt_barred begins x.at.base None x.way ≡ None
      → there.context ≡ entered x.at.next x.stmt x.at.context

abbrev pub ElementsHoldIt : Type 0 → Type 0
ElementsHoldIt A = (begins : A → ℕ → ℕ) (p : Standing) (b : statement.Stmts A) (f : tree.Exp A)
    (way : ListWay f b) → HoldsIt begins (at_list begins p way) (nearest begins p way)

-- ---- spans

-- No other expression of the element has the span: what has it stands where the first one does.
pub record IsOne (p : Standing) {b : statement.Stmts Span} {f : tree.Exp Span} (way : ListWay f b)
    {g : tree.Exp Span} (d : StmtWay g (nearest begins p way).stmt) : Type 0 where
  pub value : g ≡ f
  pub at : at_stmt begins (nearest begins p way).at d ≡ at_list begins p way

abbrev pub OneHasTheSpan : Type 0
OneHasTheSpan = (b : statement.Stmts Span) → IsNested b → (p : Standing) (f : tree.Exp Span)
    (way : ListWay f b) (g : tree.Exp Span) (d : StmtWay g (nearest begins p way).stmt)
    → exp_mark g ≡ exp_mark f → IsOne p way d
