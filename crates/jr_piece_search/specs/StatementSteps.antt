-- Where a search by a span goes from a statement, and from a list of statements: exact.
use Rattle.std.specs.Prelude.{
  ℕ,
  suc,
  Bool,
  true,
  false,
  Option,
  Some,
  None,
  if◌then◌else◌,
}
use Rattle.jr_text.specs.declared.spans.Span.{Span}
use Rattle.jr_ast.specs.Tree as tree
use Rattle.jr_ast.specs.StatementTree as statement
use Rattle.jr_ast.specs.Marks.{exp_mark, stmt_mark}
use Rattle.jr_grammar.specs.Layout.{itself}
use Rattle.jr_pieces.specs.Finding.{is_behind}
use Rattle.jr_pieces.specs.Uses.{Use, valued, stated}

-- nowhere; into an expression, which a loop may evaluate again; into a statement that may be left
-- out; into a list, whose elements have numbers from one on
pub data Inward : Type 0 where
  nowhere : Inward
  to_exp : (number : ℕ) (u : Use) (again : Bool) (part : tree.Exp Span) → Inward
  to_stmt : (number : ℕ) (part : statement.Stmt Span) → Inward
  to_list : (first : ℕ) (list : statement.Stmts Span) → Inward

-- an element by its number, and the list from it on
pub record Chosen : Type 0 where
  pub number : ℕ
  pub stmt : statement.Stmt Span
  pub list : statement.Stmts Span

abbrev pub in_return : Option (tree.Exp Span) → Inward
in_return None = nowhere
in_return (Some e) = to_exp 0 valued false e

module _ (s : Span) where
  abbrev pub in_branches : (yes other : statement.Stmt Span) → Inward
  in_branches x y = if is_behind itself s (stmt_mark x) then to_stmt 2 y else to_stmt 1 x

  -- behind the condition
  abbrev pub behind_test : statement.Stmt Span → statement.Else Span → Inward
  behind_test x statement.no_else = to_stmt 1 x
  behind_test x (statement.otherwise y) = in_branches x y

  abbrev pub in_if : tree.Exp Span → statement.Stmt Span → statement.Else Span → Inward
  in_if c x o =
      if is_behind itself s (exp_mark c) then behind_test x o else to_exp 0 valued false c

  abbrev pub in_while : tree.Exp Span → statement.Stmt Span → Inward
  in_while c x =
      if is_behind itself s (exp_mark c) then to_stmt 1 x else to_exp 0 valued true c

  abbrev pub in_sync : tree.Exp Span → statement.Stmts Span → Inward
  in_sync e b =
      if is_behind itself s (exp_mark e) then to_list 1 b else to_exp 0 valued false e

  abbrev pub inward : statement.Stmt Span → Inward
  inward (statement.local m is_final t w e) = to_exp 2 valued false e
  inward (statement.eval m e) = to_exp 0 stated false e
  inward (statement.branch m c x o) = in_if c x o
  inward (statement.loop m c x) = in_while c x
  inward (statement.return m v) = in_return v
  inward (statement.block m b) = to_list 0 b
  inward (statement.sync m e b) = in_sync e b
  inward (statement.empty m) = nowhere

  -- the first element that doesn't end in front of the span's end
  unfoldable pub choose : (first : ℕ) → statement.Stmts Span → Option Chosen
  choose i statement.end = None
  choose i (statement.more x xs) = if is_behind itself s (stmt_mark x) then choose (suc i) xs
      else Some (record { number = i; stmt = x; list = statement.more x xs })
