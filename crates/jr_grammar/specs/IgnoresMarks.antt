-- What a tree spells, and whether it is shaped, doesn't depend on its marks.
use Rattle.std.specs.Prelude.{◌≡◌, ◌↔◌, ℕ, Bool, List}
use Rattle.jr_ast.specs.Tree.{Exp}
use Rattle.jr_ast.specs.StatementTree.{Stmt, Stmts}
use Rattle.jr_ast.specs.MemberTree.{Member, Unit as UnitTree}
use Rattle.jr_ast.specs.Remarked.{map_exp, map_stmt, map_stmts, map_member, map_unit}
use Rattle.jr_grammar.specs.Spelling.{toks}
use Rattle.jr_grammar.specs.Shape.{Shaped, ShapedStatement}
use Rattle.jr_grammar.specs.StatementSpelling.{stmt_toks, stmts_toks}
use Rattle.jr_grammar.specs.StatementShape.{StmtShaped, StmtsShaped}
use Rattle.jr_grammar.specs.MemberSpelling.{member_toks, unit_toks}
use Rattle.jr_grammar.specs.MemberShape.{MemberShaped, UnitShaped}

-- the tree with its marks mapped by h is as it was
pub record ExpressionIgnoresMarks (A B : Type 0) : Type 0 where
  pub spelling : (h : A → B) (e : Exp A) → toks (map_exp h e) ≡ toks e
  pub shape : (h : A → B) (e : Exp A) → Shaped (map_exp h e) ↔ Shaped e
  pub statement_shape : (h : A → B) (e : Exp A) → ShapedStatement (map_exp h e) ↔ ShapedStatement e

-- the statement, and the list of statements
pub record StatementIgnoresMarks (A B : Type 0) : Type 0 where
  pub spelling : (h : A → B) (s : Stmt A) → stmt_toks (map_stmt h s) ≡ stmt_toks s
  pub shape : (h : A → B) (s : Stmt A) → StmtShaped (map_stmt h s) ↔ StmtShaped s
  pub list_spelling : (h : A → B) (ss : Stmts A) → stmts_toks (map_stmts h ss) ≡ stmts_toks ss
  pub list_shape : (h : A → B) (ss : Stmts A) → StmtsShaped (map_stmts h ss) ↔ StmtsShaped ss

-- the member of a class
pub record MemberIgnoresMarks (A B : Type 0) : Type 0 where
  pub spelling : (h : A → B) (d : Member A) → member_toks (map_member h d) ≡ member_toks d
  pub shape : (h : A → B) (nested : Bool) (name : List ℕ) (d : Member A)
      → MemberShaped nested name (map_member h d) ↔ MemberShaped nested name d

-- the unit
pub record UnitIgnoresMarks (A B : Type 0) : Type 0 where
  pub spelling : (h : A → B) (u : UnitTree A) → unit_toks (map_unit h u) ≡ unit_toks u
  pub shape : (h : A → B) (u : UnitTree A) → UnitShaped (map_unit h u) ↔ UnitShaped u
