-- The nearest statement to which an expression belongs: the innermost element of a list on its way,
-- with the statements behind it in that list, and what is known there.
use Rattle.std.specs.Prelude.{ℕ, Option, Some, None}
use Rattle.jr_ast.specs.Tree as tree
use Rattle.jr_ast.specs.StatementTree as statement
use Rattle.jr_pieces.specs.Ways.{
  StmtWay,
  in_init,
  in_eval,
  in_condition,
  in_then,
  in_else,
  in_turning,
  in_body,
  in_returned,
  in_block,
  in_lock,
  in_locked,
  ListWay,
  first,
  later,
}
use Rattle.jr_pieces.specs.Standings.{Standing, inside, behind, in_other}

-- An element of a list, the statements behind it, what is known at it, and the way from it to the
-- expression, which meets no further list.
pub record Element {A : Type 0} (f : tree.Exp A) : Type 0 where
  pub at : Standing
  pub stmt : statement.Stmt A
  pub rest : statement.Stmts A
  pub way : StmtWay f stmt

abbrev pub or_element : {X : Type 0} → Option X → X → X
or_element None x = x
or_element (Some y) x = y

module _ {A : Type 0} (begins : A → ℕ → ℕ) {f : tree.Exp A} where
  -- the innermost element on the way, which is the statement itself where it is none of a list
  -- within it
  abbrev mutual
    pub element_within : {s : statement.Stmt A} → Standing → StmtWay f s → Option (Element f)
    element_within p (in_init m is_final t w e d) = None
    element_within p (in_eval m e d) = None
    element_within p (in_condition m c s o d) = None
    element_within p (in_then m c s o d) = element_within (inside begins m p) d
    element_within p (in_else m c s o d) = element_within (in_other begins m s p) d
    element_within p (in_turning m c s d) = None
    element_within p (in_body m c s d) = element_within (inside begins m p) d
    element_within p (in_returned m e d) = None
    element_within p (in_block m b d) = Some (nearest (inside begins m p) d)
    element_within p (in_lock m e b d) = None
    element_within p (in_locked m e b d) = Some (nearest (inside begins m p) d)

    pub nearest : {b : statement.Stmts A} → Standing → ListWay f b → Element f
    nearest p (first s ss d) = or_element (element_within p d)
        (record { at = p; stmt = s; rest = ss; way = d })
    nearest p (later s ss d) = nearest (behind begins s p) d
