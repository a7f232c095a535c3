-- Which trees are statements: the side conditions (JLS 14).
use Rattle.std.specs.Prelude.{Option, Some, None}
use Rattle.jr_ast.specs.Tree.{Exp}
use Rattle.jr_ast.specs.StatementTree.{Stmt, local, eval, branch, loop, return, block, sync, empty}
use Rattle.jr_ast.specs.StatementTree.{Else, no_else, otherwise, Stmts, end, more}
use Rattle.jr_grammar.specs.Shape.{Shaped, ShapedStatement}

-- A declaration of a local stands directly in a block, and not behind `if`, `else` or `while` (JLS
-- 14.4, 14.5).
abbrev pub IsNoDeclaration : {A : Type 0} → Stmt A → Type 0
IsNoDeclaration (local m f t w e) = ⊥
IsNoDeclaration (eval m e) = Unit {0}
IsNoDeclaration (branch m c first other) = Unit {0}
IsNoDeclaration (loop m c body) = Unit {0}
IsNoDeclaration (return m value) = Unit {0}
IsNoDeclaration (block m body) = Unit {0}
IsNoDeclaration (sync m e body) = Unit {0}
IsNoDeclaration (empty m) = Unit {0}

-- No `if` at its end could take an `else` that follows: what may stand before one (JLS 14.5, 14.9).
abbrev mutual
  pub TakesNoElse : {A : Type 0} → Stmt A → Type 0
  TakesNoElse (local m f t w e) = Unit {0}
  TakesNoElse (eval m e) = Unit {0}
  TakesNoElse (branch m c first other) = EndsTaken other
  TakesNoElse (loop m c body) = TakesNoElse body
  TakesNoElse (return m value) = Unit {0}
  TakesNoElse (block m body) = Unit {0}
  TakesNoElse (sync m e body) = Unit {0}
  TakesNoElse (empty m) = Unit {0}

  -- an `if` has its `else`, and no other could follow
  pub EndsTaken : {A : Type 0} → Else A → Type 0
  EndsTaken no_else = ⊥
  EndsTaken (otherwise s) = TakesNoElse s

abbrev pub ShapedValue : {A : Type 0} → Option (Exp A) → Type 0
ShapedValue None = Unit {0}
ShapedValue (Some e) = Shaped e

abbrev mutual
  pub StmtShaped : {A : Type 0} → Stmt A → Type 0
  StmtShaped (local m f t w e) = Shaped e
  -- JLS 14.8
  StmtShaped (eval m e) = ShapedStatement e
  StmtShaped (branch m c first other) =
      Shaped c × IsNoDeclaration first × StmtShaped first × ElseShaped first other
  StmtShaped (loop m c body) = Shaped c × IsNoDeclaration body × StmtShaped body
  StmtShaped (return m value) = ShapedValue value
  StmtShaped (block m body) = StmtsShaped body
  StmtShaped (sync m e body) = Shaped e × StmtsShaped body
  StmtShaped (empty m) = Unit {0}

  -- An `else` belongs to the nearest `if` that can take it (JLS 14.5): none in what it follows can.
  pub ElseShaped : {A : Type 0} → Stmt A → Else A → Type 0
  ElseShaped first no_else = Unit {0}
  ElseShaped first (otherwise s) = TakesNoElse first × IsNoDeclaration s × StmtShaped s

  pub StmtsShaped : {A : Type 0} → Stmts A → Type 0
  StmtsShaped end = Unit {0}
  StmtsShaped (more s ss) = StmtShaped s × StmtsShaped ss
