-- The text that statements are printed as.
use Rattle.std.specs.Prelude.{ℕ, Bool, true, false, codes, List, [], ◌++◌, Option, Some, None}
use Rattle.jr_ast.specs.Tree.{Word, TypeName, Exp}
use Rattle.jr_ast.specs.StatementTree.{Stmt, local, eval, branch, loop, return, block, sync, empty}
use Rattle.jr_ast.specs.StatementTree.{Else, no_else, otherwise, Stmts, end, more}
use Rattle.jr_print.specs.ExpressionText.{printed_type, printed}

abbrev pub printed_final : Bool → List ℕ
printed_final true = codes "final "
printed_final false = []

-- a variable with its type, perhaps `final`
abbrev pub printed_variable : {A : Type 0} → Bool → TypeName A → Word A → List ℕ
printed_variable f t w = printed_final f ++ printed_type t ++ codes " " ++ w.text

-- `return` with its value, if there is one
abbrev pub printed_return : {A : Type 0} → Option (Exp A) → List ℕ
printed_return None = codes "return;"
printed_return (Some e) = codes "return " ++ printed e ++ codes ";"

abbrev mutual
  pub printed_stmt : {A : Type 0} → Stmt A → List ℕ
  printed_stmt (local m f t w e) = printed_variable f t w ++ codes " = " ++ printed e ++ codes ";"
  printed_stmt (eval m e) = printed e ++ codes ";"
  printed_stmt (branch m c first other) =
      codes "if (" ++ printed c ++ codes ") " ++ printed_stmt first ++ printed_else other
  printed_stmt (loop m c body) = codes "while (" ++ printed c ++ codes ") " ++ printed_stmt body
  printed_stmt (return m value) = printed_return value
  printed_stmt (block m body) = codes "{" ++ printed_stmts body ++ codes " }"
  printed_stmt (sync m e body) =
      codes "synchronized (" ++ printed e ++ codes ") {" ++ printed_stmts body ++ codes " }"
  printed_stmt (empty m) = codes ";"

  pub printed_else : {A : Type 0} → Else A → List ℕ
  printed_else no_else = []
  printed_else (otherwise s) = codes " else " ++ printed_stmt s

  -- what stands in a block, which has one space before each statement and one before its `}`
  pub printed_stmts : {A : Type 0} → Stmts A → List ℕ
  printed_stmts end = []
  printed_stmts (more s ss) = codes " " ++ printed_stmt s ++ printed_stmts ss
