-- Some of the statements of a list, and the element through which a way goes.
use Rattle.std.specs.Prelude.{ℕ, zero, suc}
use Rattle.jr_ast.specs.Tree as tree
use Rattle.jr_ast.specs.StatementTree as statement
use Rattle.jr_pieces.specs.Ways.{StmtWay, ListWay, first, later}

module _ {A : Type 0} where
  -- without the first ones
  abbrev pub dropped : ℕ → statement.Stmts A → statement.Stmts A
  dropped zero ss = ss
  dropped (suc n) statement.end = statement.end
  dropped (suc n) (statement.more s ss) = dropped n ss

  -- the first ones
  abbrev pub taken : ℕ → statement.Stmts A → statement.Stmts A
  taken zero ss = statement.end
  taken (suc n) statement.end = statement.end
  taken (suc n) (statement.more s ss) = statement.more s (taken n ss)

  abbrev pub size : statement.Stmts A → ℕ
  size statement.end = 0
  size (statement.more s ss) = suc (size ss)

-- an element of a list, and the way from it on
pub record Own {A : Type 0} (f : tree.Exp A) : Type 0 where
  pub stmt : statement.Stmt A
  pub way : StmtWay f stmt

abbrev pub own : {A : Type 0} {f : tree.Exp A} {b : statement.Stmts A} → ListWay f b → Own f
own (first s ss d) = record { stmt = s; way = d }
own (later s ss d) = own d
