-- The declaration of a local at the head of a list.
use Rattle.std.specs.Prelude.{ℕ, ◌-◌, Option, Some, None}
use Rattle.jr_text.specs.declared.spans.Span.{Span}
use Rattle.jr_ast.specs.Tree as tree
use Rattle.jr_ast.specs.StatementTree as statement

-- how many bytes the local's name has, the initializer, and the list behind it
pub record Head : Type 0 where
  pub size : ℕ
  pub init : tree.Exp Span
  pub rest : statement.Stmts Span

abbrev pub head_in : statement.Stmt Span → statement.Stmts Span → Option Head
head_in (statement.local m is_final t w e) ss =
    Some (record { size = w.mark.to - w.mark.from; init = e; rest = ss })
head_in (statement.eval m e) ss = None
head_in (statement.branch m c s o) ss = None
head_in (statement.loop m c s) ss = None
head_in (statement.return m e) ss = None
head_in (statement.block m b) ss = None
head_in (statement.sync m e b) ss = None
head_in (statement.empty m) ss = None

abbrev pub declaration_head : statement.Stmts Span → Option Head
declaration_head statement.end = None
declaration_head (statement.more s ss) = head_in s ss
