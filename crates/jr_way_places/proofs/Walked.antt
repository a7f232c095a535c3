-- What has a property where a way leads has it somewhere in the list.
use Rattle.std.proofs.Common.{◌≡◌, inl, inr, ℕ, refl, subst}
use Rattle.jr_ast.specs.Tree as tree
use Rattle.jr_ast.specs.StatementTree as statement
use Rattle.jr_table.specs.Context.{Context}
use Rattle.jr_table.specs.Binding.{Role, value, left, BindsItself}
use Rattle.jr_table.specs.Binding as role
use Rattle.jr_table.specs.Somewhere.{Somewhere, InTarget, InRow, InStmt, InElse, InStmts}
use Rattle.jr_table.specs.ExpressionRules.{ExpBreaks}
use Rattle.jr_table.specs.StatementRules.{StmtBreaks, ListBreaks, StmtBindsItself}
use Rattle.jr_pieces.specs.Ways.{ExpWay, here, in_front, in_target, in_argument, in_super_argument, in_created, in_paren, in_cast, in_unary, in_bump, in_left, in_right, in_assigned, in_value, in_changed, in_change}
use Rattle.jr_pieces.specs.Ways.{ExpsWay, first_argument, later_argument, StmtWay, in_init, in_eval, in_condition, in_then, in_else, in_turning, in_body, in_returned, in_block, in_lock, in_locked, ListWay, first, later}
use Rattle.jr_pieces.specs.Standings.{Standing, inside, behind, in_other, in_initializer, at_exp, at_exps, at_stmt, at_list}
use Rattle.jr_way_places.specs.PlacedWays.{exp_role, exps_role, stmt_role, list_role, WaysAreWalked}

-- ---- what is known is the same in all of an expression

module _ {A : Type 0} (begins : A → ℕ → ℕ) {f : tree.Exp A} where
  mutual
    pub exp_context : {e : tree.Exp A} (p : Standing) (d : ExpWay f e) → (at_exp begins p d).context ≡ p.context
    exp_context p here = refl
    exp_context p (in_front m e w d) = exp_context (inside begins m p) d
    exp_context p (in_target m e w es d) = exp_context (inside begins m p) d
    exp_context p (in_argument m t w es d) = exps_context (inside begins m p) d
    exp_context p (in_super_argument m w es d) = exps_context (inside begins m p) d
    exp_context p (in_created m t es d) = exps_context (inside begins m p) d
    exp_context p (in_paren m e d) = exp_context (inside begins m p) d
    exp_context p (in_cast m t e d) = exp_context (inside begins m p) d
    exp_context p (in_unary m o e d) = exp_context (inside begins m p) d
    exp_context p (in_bump m o e d) = exp_context (inside begins m p) d
    exp_context p (in_left m o x y d) = exp_context (inside begins m p) d
    exp_context p (in_right m o x y d) = exp_context (inside begins m p) d
    exp_context p (in_assigned m t e d) = exp_context (inside begins m p) d
    exp_context p (in_value m t e d) = exp_context (inside begins m p) d
    exp_context p (in_changed m o t e d) = exp_context (inside begins m p) d
    exp_context p (in_change m o t e d) = exp_context (inside begins m p) d

    exps_context : {es : tree.Exps A} (p : Standing) (d : ExpsWay f es) → (at_exps begins p d).context ≡ p.context
    exps_context p (first_argument e es d) = exp_context p d
    exps_context p (later_argument e es d) = exps_context p d

-- ---- expressions

module _ {A : Type 0} (begins : A → ℕ → ℕ) (P : Role → (base : ℕ) → tree.Exp A → Type 0) where
  itself : (r : Role) (base : ℕ) (e : tree.Exp A) → P r base e → Somewhere begins P r base e
  unfolding Somewhere
  itself r base (tree.number m n) h = h
  itself r base (tree.truth m b) h = h
  itself r base (tree.null m) h = h
  itself r base (tree.string m t) h = h
  itself r base (tree.name m w) h = h
  itself r base (tree.field m e w) h = inl h
  itself r base (tree.super_field m w) h = h
  itself r base (tree.this m) h = h
  itself r base (tree.class_literal m t) h = h
  itself r base (tree.call m t w es) h = inl h
  itself r base (tree.super_call m w es) h = inl h
  itself r base (tree.create m t es) h = inl h
  itself r base (tree.paren m e) h = inl h
  itself r base (tree.cast m t e) h = inl h
  itself r base (tree.unary m o e) h = inl h
  itself r base (tree.bump m o e) h = inl h
  itself r base (tree.binary m o x y) h = inl h
  itself r base (tree.assign m t e) h = inl h
  itself r base (tree.compound m o t e) h = inl h

  module _ {f : tree.Exp A} where
    mutual
      unfolding Somewhere InTarget InRow

      exp_walked : {e : tree.Exp A} (p : Standing) (r : Role) (d : ExpWay f e) → P (exp_role r d) (at_exp begins p d).base f → Somewhere begins P r p.base e
      exp_walked p r here h = itself r p.base f h
      exp_walked p r (in_front m e w d) h = inr (exp_walked (inside begins m p) left d h)
      exp_walked p r (in_target m e w es d) h = inr (inl (exp_walked (inside begins m p) left d h))
      exp_walked p r (in_argument m t w es d) h = inr (inr (row_walked (inside begins m p) d h))
      exp_walked p r (in_super_argument m w es d) h = inr (row_walked (inside begins m p) d h)
      exp_walked p r (in_created m t es d) h = inr (row_walked (inside begins m p) d h)
      exp_walked p r (in_paren m e d) h = inr (exp_walked (inside begins m p) value d h)
      exp_walked p r (in_cast m t e d) h = inr (exp_walked (inside begins m p) value d h)
      exp_walked p r (in_unary m o e d) h = inr (exp_walked (inside begins m p) value d h)
      exp_walked p r (in_bump m o e d) h = inr (exp_walked (inside begins m p) value d h)
      exp_walked p r (in_left m o x y d) h = inr (inl (exp_walked (inside begins m p) value d h))
      exp_walked p r (in_right m o x y d) h = inr (inr (exp_walked (inside begins m p) value d h))
      exp_walked p r (in_assigned m t e d) h = inr (inl (exp_walked (inside begins m p) value d h))
      exp_walked p r (in_value m t e d) h = inr (inr (exp_walked (inside begins m p) value d h))
      exp_walked p r (in_changed m o t e d) h = inr (inl (exp_walked (inside begins m p) value d h))
      exp_walked p r (in_change m o t e d) h = inr (inr (exp_walked (inside begins m p) value d h))

      row_walked : {es : tree.Exps A} (p : Standing) (d : ExpsWay f es) → P (exps_role d) (at_exps begins p d).base f → InRow begins P p.base es
      row_walked p (first_argument e es d) h = inl (exp_walked p value d h)
      row_walked p (later_argument e es d) h = inr (row_walked p d h)

-- ---- statements

module _ {A : Type 0} (begins : A → ℕ → ℕ) (OnExp : Context → Role → (base : ℕ) → tree.Exp A → Type 0)
    (OnStmt : (number : ℕ) → Context → (base : ℕ) → statement.Stmt A → Type 0) (OnList : (base : ℕ) → statement.Stmts A → Type 0) (f : tree.Exp A) where
  abbrev HasAt : Standing → Role → Type 0
  HasAt p r = OnExp p.context r p.base f

  value_walked : {e : tree.Exp A} (p : Standing) (r : Role) (d : ExpWay f e) → HasAt (at_exp begins p d) (exp_role r d) → Somewhere begins (OnExp p.context) r p.base e
  value_walked p r d h = exp_walked begins (OnExp p.context) p r d (subst (λ c. OnExp c (exp_role r d) (at_exp begins p d).base f) (exp_context begins p d) h)

  mutual
    unfolding InStmt InElse InStmts

    stmt_walked : {s : statement.Stmt A} (p : Standing) (d : StmtWay f s) → HasAt (at_stmt begins p d) (stmt_role d) → InStmt begins OnExp OnStmt OnList p.next p.context p.base s
    stmt_walked p (in_init m is_final t w e d) h = inr (value_walked (in_initializer begins m is_final t w p) value d h)
    stmt_walked p (in_eval m e d) h = inr (value_walked (inside begins m p) role.statement d h)
    stmt_walked p (in_condition m c s o d) h = inr (inl (value_walked (inside begins m p) value d h))
    stmt_walked p (in_then m c s o d) h = inr (inr (inl (stmt_walked (inside begins m p) d h)))
    stmt_walked p (in_else m c s o d) h = inr (inr (inr (stmt_walked (in_other begins m s p) d h)))
    stmt_walked p (in_turning m c s d) h = inr (inl (value_walked (inside begins m p) value d h))
    stmt_walked p (in_body m c s d) h = inr (inr (stmt_walked (inside begins m p) d h))
    stmt_walked p (in_returned m e d) h = inr (value_walked (inside begins m p) value d h)
    stmt_walked p (in_block m b d) h = inr (inr (list_walked (inside begins m p) d h))
    stmt_walked p (in_lock m e b d) h = inr (inl (value_walked (inside begins m p) value d h))
    stmt_walked p (in_locked m e b d) h = inr (inr (inr (list_walked (inside begins m p) d h)))

    pub list_walked : {b : statement.Stmts A} (p : Standing) (d : ListWay f b) → HasAt (at_list begins p d) (list_role d) → InStmts begins OnExp OnStmt OnList p.next p.context p.base b
    list_walked p (first s ss d) h = inl (stmt_walked p d h)
    list_walked p (later s ss d) h = inr (list_walked (behind begins s p) d h)

pub ways_are_walked : {A : Type 0} → WaysAreWalked A
ways_are_walked {A} begins rows f b p w = record {
  binds = λ at d h. list_walked begins (λ c r base e. BindsItself begins rows c r base e at d) (λ n c base s. StmtBindsItself begins rows n c base s at d) (λ base ss. ⊥) f p w h;
  breaks = λ at k h. list_walked begins (λ c r base e. ExpBreaks begins rows c r base e at k) (λ n c base s. StmtBreaks begins rows n c base s at k) (λ base ss. ListBreaks begins base ss at k) f p w h;
}
