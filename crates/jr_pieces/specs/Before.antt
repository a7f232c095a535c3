-- What is evaluated before an expression, from where its way begins: sites, in evaluation order
-- (JLS 15.7, 15.12.4, 15.26). Of a list these are those of its elements from the first one on.
use Rattle.std.specs.Prelude.{◌≡◌, false, List, [], ◌++◌, Option, Some, None}
use Rattle.jr_ast.specs.Tree as tree
use Rattle.jr_ast.specs.StatementTree as statement
use Rattle.jr_runs.specs.Keys.{Keys, keys_of}
use Rattle.jr_cover.specs.Ways.{Way, row, sites_of}
use Rattle.jr_cover.specs.Sites.{
  What,
  Site,
  at_place,
  Known,
  unless,
  is_class_name,
  exp_way,
  receiver_way,
  operand_way,
  target_load,
  stmt_way,
  stmts_way,
}
use Rattle.jr_pieces.specs.Ways.{
  ExpWay,
  here,
  in_front,
  in_target,
  in_argument,
  in_super_argument,
  in_created,
  in_paren,
  in_cast,
  in_unary,
  in_bump,
  in_left,
  in_right,
  in_assigned,
  in_value,
  in_changed,
  in_change,
  ExpsWay,
  first_argument,
  later_argument,
  StmtWay,
  in_init,
  in_eval,
  in_condition,
  in_then,
  in_else,
  in_turning,
  in_body,
  in_returned,
  in_block,
  in_lock,
  in_locked,
  ListWay,
  first,
  later,
}

module _ {K : Keys} {A : Type 0} (X : Known K A) where
  -- a loop's own site, what a lock is tested for, and that the monitor is entered
  abbrev pub turned : A → Way (Site K)
  turned m = at_place (X.facts.first m) What.loops

  abbrev pub lock_check : A → tree.Exp A → Way (Site K)
  lock_check m e = unless (X.never_null e) (at_place (X.facts.first m) What.checks)

  abbrev pub entered : A → Way (Site K)
  entered m = at_place (X.facts.first m) What.enters

  abbrev pub locked : A → tree.Exp A → Way (Site K)
  locked m e = row (exp_way X e) (row (lock_check m e) (entered m))

module _ {K : Keys} {A : Type 0} (X : Known K A) {f : tree.Exp A} where
  abbrev mutual
    pub exp_before : {e : tree.Exp A} → ExpWay f e → List (Site K)
    exp_before here = []
    exp_before (in_front m e w d) = exp_before d
    exp_before (in_target m e w es d) = exp_before d
    exp_before (in_argument m t w es d) = sites_of (receiver_way X t) ++ exps_before d
    exp_before (in_super_argument m w es d) = exps_before d
    exp_before (in_created m t es d) =
        sites_of (at_place (X.facts.first m) What.creates) ++ exps_before d
    exp_before (in_paren m e d) = exp_before d
    exp_before (in_cast m t e d) = exp_before d
    exp_before (in_unary m o e d) = exp_before d
    exp_before (in_bump m o e d) = exp_before d
    exp_before (in_left m o l r d) = exp_before d
    exp_before (in_right m o l r d) = sites_of (exp_way X l) ++ exp_before d
    exp_before (in_assigned m t e d) = exp_before d
    exp_before (in_value m t e d) = sites_of (operand_way X t) ++ exp_before d
    exp_before (in_changed m o t e d) = exp_before d
    exp_before (in_change m o t e d) =
        sites_of (row (operand_way X t) (target_load X t)) ++ exp_before d

    pub exps_before : {es : tree.Exps A} → ExpsWay f es → List (Site K)
    exps_before (first_argument e es d) = exp_before d
    exps_before (later_argument e es d) = sites_of (exp_way X e) ++ exps_before d

  abbrev mutual
    pub stmt_before : {s : statement.Stmt A} → StmtWay f s → List (Site K)
    stmt_before (in_init m is_final t w e d) = exp_before d
    stmt_before (in_eval m e d) = exp_before d
    stmt_before (in_condition m c s o d) = exp_before d
    stmt_before (in_then m c s o d) = sites_of (exp_way X c) ++ stmt_before d
    stmt_before (in_else m c s o d) =
        sites_of (row (exp_way X c) (stmt_way X s)) ++ stmt_before d
    stmt_before (in_turning m c s d) = sites_of (turned X m) ++ exp_before d
    stmt_before (in_body m c s d) = sites_of (row (turned X m) (exp_way X c)) ++ stmt_before d
    stmt_before (in_returned m e d) = exp_before d
    stmt_before (in_block m b d) = list_before d
    stmt_before (in_lock m e b d) = exp_before d
    stmt_before (in_locked m e b d) = sites_of (locked X m e) ++ list_before d

    pub list_before : {b : statement.Stmts A} → ListWay f b → List (Site K)
    list_before (first s ss d) = stmt_before d
    list_before (later s ss d) = sites_of (stmt_way X s) ++ list_before d

  -- the sites of the elements up to the one that holds the expression, and all of that one's
  abbrev pub list_through : {b : statement.Stmts A} → ListWay f b → List (Site K)
  list_through (first s ss d) = sites_of (stmt_way X s)
  list_through (later s ss d) = sites_of (stmt_way X s) ++ list_through d

  -- What comes between what stands in front of a list and an expression in it: the sites of the
  -- elements in front of the one that holds it, and then of that one those that come before the
  -- expression, or all of them where something bars the way, which the first argument says.
  abbrev pub between : {N : Type 0} {b : statement.Stmts A} → Option N → ListWay f b
      → List (Site K)
  between None d = list_before d
  between (Some at) d = list_through d

-- ---- what is evaluated at all

-- What the way leads to is evaluated for its value: it is no class's name, no target, and in none
-- of these. The operand of a target is evaluated.
module _ {K : Keys} {A : Type 0} (X : Known K A) {f : tree.Exp A} where
  abbrev mutual
    pub ExpEvaluated : {e : tree.Exp A} → ExpWay f e → Type 0
    ExpEvaluated here = Unit {0}
    ExpEvaluated (in_front m e w d) = (is_class_name X e ≡ false) × ExpEvaluated d
    ExpEvaluated (in_target m e w es d) = (is_class_name X e ≡ false) × ExpEvaluated d
    ExpEvaluated (in_argument m t w es d) = ExpsEvaluated d
    ExpEvaluated (in_super_argument m w es d) = ExpsEvaluated d
    ExpEvaluated (in_created m t es d) = ExpsEvaluated d
    ExpEvaluated (in_paren m e d) = ExpEvaluated d
    ExpEvaluated (in_cast m t e d) = ExpEvaluated d
    ExpEvaluated (in_unary m o e d) = ExpEvaluated d
    ExpEvaluated (in_bump m o e d) = TargetEvaluated d
    ExpEvaluated (in_left m o l r d) = ExpEvaluated d
    ExpEvaluated (in_right m o l r d) = ExpEvaluated d
    ExpEvaluated (in_assigned m t e d) = TargetEvaluated d
    ExpEvaluated (in_value m t e d) = ExpEvaluated d
    ExpEvaluated (in_changed m o t e d) = TargetEvaluated d
    ExpEvaluated (in_change m o t e d) = ExpEvaluated d

    -- a way into a target: into what stands in front of its dot
    pub TargetEvaluated : {e : tree.Exp A} → ExpWay f e → Type 0
    TargetEvaluated (in_front m e w d) = (is_class_name X e ≡ false) × ExpEvaluated d
    TargetEvaluated _ = ⊥

    pub ExpsEvaluated : {es : tree.Exps A} → ExpsWay f es → Type 0
    ExpsEvaluated (first_argument e es d) = ExpEvaluated d
    ExpsEvaluated (later_argument e es d) = ExpsEvaluated d

  abbrev mutual
    pub StmtEvaluated : {s : statement.Stmt A} → StmtWay f s → Type 0
    StmtEvaluated (in_init m is_final t w e d) = ExpEvaluated d
    StmtEvaluated (in_eval m e d) = ExpEvaluated d
    StmtEvaluated (in_condition m c s o d) = ExpEvaluated d
    StmtEvaluated (in_then m c s o d) = StmtEvaluated d
    StmtEvaluated (in_else m c s o d) = StmtEvaluated d
    StmtEvaluated (in_turning m c s d) = ExpEvaluated d
    StmtEvaluated (in_body m c s d) = StmtEvaluated d
    StmtEvaluated (in_returned m e d) = ExpEvaluated d
    StmtEvaluated (in_block m b d) = ListEvaluated d
    StmtEvaluated (in_lock m e b d) = ExpEvaluated d
    StmtEvaluated (in_locked m e b d) = ListEvaluated d

    pub ListEvaluated : {b : statement.Stmts A} → ListWay f b → Type 0
    ListEvaluated (first s ss d) = StmtEvaluated d
    ListEvaluated (later s ss d) = ListEvaluated d

-- the sites of a piece stand in those of a whole, behind these
pub record StandsBehind {K : Keys} (before piece whole : List (Site K)) : Type 0 where
  pub rest : List (Site K)
  pub is : whole ≡ before ++ (piece ++ rest)

-- What is evaluated before an expression, and then the expression, is what the list does first.
abbrev pub WhatComesBeforeStandsInFront : (C F M N L A : Type 0) → Type 0
WhatComesBeforeStandsInFront C F M N L A = (X : Known (keys_of C F M N L) A) (f : tree.Exp A)
    (b : statement.Stmts A) (d : ListWay f b) → ListEvaluated X d
    → StandsBehind (list_before X d) (sites_of (exp_way X f)) (sites_of (stmts_way X b))
