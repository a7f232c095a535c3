-- What keeps a place from being straight below: a run may not come there, or may come there again.
-- Straight below a list stands what its elements lead to through blocks and `synchronized` blocks
-- alone: an expression that is a statement, an initializer, a returned one, the condition of an
-- `if`, a lock, but nothing in a right operand of `&&` or `||`. What bars a place is a step into a
-- branch of `if`, into a condition or body of `while`, or into such an operand; the innermost
-- construct with such a step is told, by its first byte. From the nearest statement of an
-- expression on, no way meets a list, and so a block or `synchronized` statement holds the
-- expression in its lock alone.
use Rattle.std.specs.Prelude.{ℕ, Option, Some}
use Rattle.jr_ast.specs.declared.operators.BinOp.{BinOp}
use Rattle.jr_ast.specs.declared.operators.BinOp.TheVariants.{Or, And}
use Rattle.jr_ast.specs.Tree as tree
use Rattle.jr_ast.specs.StatementTree as statement
use Rattle.jr_pieces.specs.Ways.{
  ExpWay,
  here,
  in_front,
  in_target,
  in_argument,
  in_super_argument,
  in_created,
  in_paren,
  in_cast,
  in_unary,
  in_bump,
  in_left,
  in_right,
  in_assigned,
  in_value,
  in_changed,
  in_change,
  ExpsWay,
  first_argument,
  later_argument,
  StmtWay,
  in_init,
  in_eval,
  in_condition,
  in_then,
  in_else,
  in_turning,
  in_body,
  in_returned,
  in_block,
  in_lock,
  in_locked,
  ListWay,
  first,
  later,
}

-- into the right operand of an operator that begins there (JLS 15.23, 15.24)
abbrev pub by_operator : BinOp → (at : ℕ) → Option ℕ → Option ℕ
by_operator Or at outer = Some at
by_operator And at outer = Some at
by_operator _ at outer = outer

-- outer: what bars the whole, if anything does; base: where the parent begins
module _ {A : Type 0} (begins : A → ℕ → ℕ) {f : tree.Exp A} where
  abbrev mutual
    pub exp_barred : {e : tree.Exp A} → (base : ℕ) → Option ℕ → ExpWay f e → Option ℕ
    exp_barred base outer here = outer
    exp_barred base outer (in_front m e w d) = exp_barred (begins m base) outer d
    exp_barred base outer (in_target m e w es d) = exp_barred (begins m base) outer d
    exp_barred base outer (in_argument m t w es d) = exps_barred (begins m base) outer d
    exp_barred base outer (in_super_argument m w es d) = exps_barred (begins m base) outer d
    exp_barred base outer (in_created m t es d) = exps_barred (begins m base) outer d
    exp_barred base outer (in_paren m e d) = exp_barred (begins m base) outer d
    exp_barred base outer (in_cast m t e d) = exp_barred (begins m base) outer d
    exp_barred base outer (in_unary m o e d) = exp_barred (begins m base) outer d
    exp_barred base outer (in_bump m o e d) = exp_barred (begins m base) outer d
    exp_barred base outer (in_left m o l r d) = exp_barred (begins m base) outer d
    exp_barred base outer (in_right m o l r d) =
        exp_barred (begins m base) (by_operator o (begins m base) outer) d
    exp_barred base outer (in_assigned m t e d) = exp_barred (begins m base) outer d
    exp_barred base outer (in_value m t e d) = exp_barred (begins m base) outer d
    exp_barred base outer (in_changed m o t e d) = exp_barred (begins m base) outer d
    exp_barred base outer (in_change m o t e d) = exp_barred (begins m base) outer d

    pub exps_barred : {es : tree.Exps A} → (base : ℕ) → Option ℕ → ExpsWay f es → Option ℕ
    exps_barred base outer (first_argument e es d) = exp_barred base outer d
    exps_barred base outer (later_argument e es d) = exps_barred base outer d

  abbrev mutual
    pub stmt_barred : {s : statement.Stmt A} → (base : ℕ) → Option ℕ → StmtWay f s → Option ℕ
    stmt_barred base outer (in_init m is_final t w e d) = exp_barred (begins m base) outer d
    stmt_barred base outer (in_eval m e d) = exp_barred (begins m base) outer d
    stmt_barred base outer (in_condition m c s o d) = exp_barred (begins m base) outer d
    stmt_barred base outer (in_then m c s o d) =
        stmt_barred (begins m base) (Some (begins m base)) d
    stmt_barred base outer (in_else m c s o d) =
        stmt_barred (begins m base) (Some (begins m base)) d
    stmt_barred base outer (in_turning m c s d) =
        exp_barred (begins m base) (Some (begins m base)) d
    stmt_barred base outer (in_body m c s d) =
        stmt_barred (begins m base) (Some (begins m base)) d
    stmt_barred base outer (in_returned m e d) = exp_barred (begins m base) outer d
    stmt_barred base outer (in_block m b d) = list_barred (begins m base) outer d
    stmt_barred base outer (in_lock m e b d) = exp_barred (begins m base) outer d
    stmt_barred base outer (in_locked m e b d) = list_barred (begins m base) outer d

    pub list_barred : {b : statement.Stmts A} → (base : ℕ) → Option ℕ → ListWay f b → Option ℕ
    list_barred base outer (first s ss d) = stmt_barred base outer d
    list_barred base outer (later s ss d) = list_barred base outer d
