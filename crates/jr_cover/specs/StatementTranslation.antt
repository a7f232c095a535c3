-- The code of statements, by what binding says of marks.
use Rattle.std.specs.Prelude.{ℕ, List, [], ◌∷◌, ◌++◌, Option, Some, None}
use Rattle.jr_ast.specs.Tree.{Exp}
use Rattle.jr_ast.specs.StatementTree as tree
use Rattle.jr_runs.specs.Keys.{Keys}
use Rattle.jr_cover.specs.Facts.{Facts}
use Rattle.jr_runs.specs.Core as core
use Rattle.jr_runs.specs.Core.{Stmt, declare, eval, branch, loop, return, return_nothing, block}
use Rattle.jr_runs.specs.Core.{sync, empty, Stmts}
use Rattle.jr_cover.specs.Translation.{exp_code}

-- the locals that are declared in statements, at any depth
abbrev mutual
  pub declared : {K : Keys} {A : Type 0} → Facts K A → tree.Stmt A → List ℕ
  declared F (tree.local a is_final t w e) = F.number w.mark ∷ []
  declared F (tree.eval a e) = []
  declared F (tree.branch a c s o) = declared F s ++ declared_else F o
  declared F (tree.loop a c s) = declared F s
  declared F (tree.return a v) = []
  declared F (tree.block a b) = all_declared F b
  declared F (tree.sync a e b) = all_declared F b
  declared F (tree.empty a) = []

  pub declared_else : {K : Keys} {A : Type 0} → Facts K A → tree.Else A → List ℕ
  declared_else F tree.no_else = []
  declared_else F (tree.otherwise s) = declared F s

  pub all_declared : {K : Keys} {A : Type 0} → Facts K A → tree.Stmts A → List ℕ
  all_declared F tree.Stmts.end = []
  all_declared F (tree.Stmts.more s b) = declared F s ++ all_declared F b

abbrev pub return_at : {K : Keys} {A : Type 0} → Facts K A → A → Option (Exp A) → Stmt K
return_at F a None = return_nothing (Some (F.first a))
return_at F a (Some e) = return (Some (F.first a)) (exp_code F e)

-- A monitor is entered at the word `synchronized`, and exited at the block's last brace.
abbrev mutual
  pub stmt_code : {K : Keys} {A : Type 0} → Facts K A → tree.Stmt A → Stmt K
  stmt_code F (tree.local a is_final t w e) =
      declare (Some (F.first w.mark)) (F.number w.mark) (exp_code F e)
  stmt_code F (tree.eval a e) = eval (Some (F.first a)) (exp_code F e)
  stmt_code F (tree.branch a c s o) =
      branch (Some (F.first a)) (exp_code F c) (stmt_code F s) (else_code F o)
  stmt_code F (tree.loop a c s) = loop (Some (F.first a)) (exp_code F c) (stmt_code F s)
  stmt_code F (tree.return a v) = return_at F a v
  stmt_code F (tree.block a b) = block (Some (F.first a)) (all_declared F b) (stmts_code F b)
  stmt_code F (tree.sync a e b) =
      sync (Some (F.first a)) (Some (F.last a)) (exp_code F e) (stmts_code F b)
  stmt_code F (tree.empty a) = empty (Some (F.first a))

  pub else_code : {K : Keys} {A : Type 0} → Facts K A → tree.Else A → Stmt K
  else_code F tree.no_else = empty None
  else_code F (tree.otherwise s) = stmt_code F s

  pub stmts_code : {K : Keys} {A : Type 0} → Facts K A → tree.Stmts A → Stmts K
  stmts_code F tree.Stmts.end = core.Stmts.end
  stmts_code F (tree.Stmts.more s b) = core.Stmts.more (stmt_code F s) (stmts_code F b)
