-- Statements in boxes, as the machine has them.
use Rattle.std.specs.Prelude.{◌≡◌, Result, IfOk, Vec}
use Rattle.std.specs.Global.{Global}
use Rattle.std.specs.declared.boxed.Box.{Box}
use Rattle.jr_text.specs.declared.spans.Span.{Span}
use Rattle.jr_ast.specs.declared.stmts.Stmt.{Stmt}
use Rattle.jr_ast.specs.StatementTree as tree
use Rattle.jr_ast.specs.View.{stmt_of, stmts_of}

abbrev pub stmt_in : Box (Stmt Span) Global → tree.Stmt Span
stmt_in b = stmt_of b.value

abbrev pub stmts_in : Vec (Stmt Span) Global → tree.Stmts Span
stmts_in v = stmts_of v.items

-- the statement
abbrev pub IsStmt : {E : Type 0} → Result (Box (Stmt Span) Global) E → tree.Stmt Span → Type 0
IsStmt result s = IfOk result (λ made. stmt_in made ≡ s)
