-- How an expression is used where a way leads to it.
use Rattle.jr_ast.specs.Tree as tree
use Rattle.jr_ast.specs.StatementTree as statement
use Rattle.jr_pieces.specs.Ways.{
  ExpWay,
  here,
  in_front,
  in_target,
  in_argument,
  in_super_argument,
  in_created,
  in_paren,
  in_cast,
  in_unary,
  in_bump,
  in_left,
  in_right,
  in_assigned,
  in_value,
  in_changed,
  in_change,
  ExpsWay,
  first_argument,
  later_argument,
  StmtWay,
  in_init,
  in_eval,
  in_condition,
  in_then,
  in_else,
  in_turning,
  in_body,
  in_returned,
  in_block,
  in_lock,
  in_locked,
  ListWay,
  first,
  later,
}

-- for its value; as what `=` assigns; as what `op=`, `++` or `--` changes, which reads it, too; as
-- a whole expression statement
pub data Use : Type 0 where
  valued : Use
  assigned : Use
  changed : Use
  stated : Use

module _ {A : Type 0} {f : tree.Exp A} where
  -- the whole is used so
  abbrev mutual
    pub exp_use : {e : tree.Exp A} → Use → ExpWay f e → Use
    exp_use u here = u
    exp_use u (in_front m e w d) = exp_use valued d
    exp_use u (in_target m e w es d) = exp_use valued d
    exp_use u (in_argument m t w es d) = exps_use d
    exp_use u (in_super_argument m w es d) = exps_use d
    exp_use u (in_created m t es d) = exps_use d
    exp_use u (in_paren m e d) = exp_use valued d
    exp_use u (in_cast m t e d) = exp_use valued d
    exp_use u (in_unary m o e d) = exp_use valued d
    exp_use u (in_bump m o e d) = exp_use changed d
    exp_use u (in_left m o l r d) = exp_use valued d
    exp_use u (in_right m o l r d) = exp_use valued d
    exp_use u (in_assigned m t e d) = exp_use assigned d
    exp_use u (in_value m t e d) = exp_use valued d
    exp_use u (in_changed m o t e d) = exp_use changed d
    exp_use u (in_change m o t e d) = exp_use valued d

    pub exps_use : {es : tree.Exps A} → ExpsWay f es → Use
    exps_use (first_argument e es d) = exp_use valued d
    exps_use (later_argument e es d) = exps_use d

  abbrev mutual
    pub stmt_use : {s : statement.Stmt A} → StmtWay f s → Use
    stmt_use (in_init m is_final t w e d) = exp_use valued d
    stmt_use (in_eval m e d) = exp_use stated d
    stmt_use (in_condition m c s o d) = exp_use valued d
    stmt_use (in_then m c s o d) = stmt_use d
    stmt_use (in_else m c s o d) = stmt_use d
    stmt_use (in_turning m c s d) = exp_use valued d
    stmt_use (in_body m c s d) = stmt_use d
    stmt_use (in_returned m e d) = exp_use valued d
    stmt_use (in_block m b d) = list_use d
    stmt_use (in_lock m e b d) = exp_use valued d
    stmt_use (in_locked m e b d) = list_use d

    pub list_use : {b : statement.Stmts A} → ListWay f b → Use
    list_use (first s ss d) = stmt_use d
    list_use (later s ss d) = list_use d
