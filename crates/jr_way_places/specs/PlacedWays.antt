-- What the walks over a member say of an expression to which a way leads.
use Rattle.std.specs.Prelude.{◌≡◌, ◌↔◌, ℕ, suc, ◌+◌, List, ◌∷◌}
use Rattle.jr_ast.specs.Tree as tree
use Rattle.jr_ast.specs.StatementTree as statement
use Rattle.jr_table.specs.Keys.{ClassKey, Ty}
use Rattle.jr_table.specs.Decls.{Decl}
use Rattle.jr_table.specs.Rows.{Row}
use Rattle.jr_table.specs.Conditions.{AreRows}
use Rattle.jr_table.specs.Context.{Context}
use Rattle.jr_table.specs.Binding.{Role, value, left, BindsItself, HasType, IsClassName}
use Rattle.jr_table.specs.Binding as role
use Rattle.jr_table.specs.Somewhere.{InStmts}
use Rattle.jr_table.specs.ExpressionRules.{ExpBreaks}
use Rattle.jr_table.specs.StatementRules.{StmtBreaks, ListBreaks, StmtBindsItself}
use Rattle.jr_table.specs.TypesAt.{TypeInStmts}
use Rattle.jr_table.specs.declared.rules.Rule.{Rule}
use Rattle.jr_pieces.specs.Ways.{
  ExpWay,
  here,
  in_front,
  in_target,
  in_argument,
  in_super_argument,
  in_created,
  in_paren,
  in_cast,
  in_unary,
  in_bump,
  in_left,
  in_right,
  in_assigned,
  in_value,
  in_changed,
  in_change,
  ExpsWay,
  first_argument,
  later_argument,
  StmtWay,
  in_init,
  in_eval,
  in_condition,
  in_then,
  in_else,
  in_turning,
  in_body,
  in_returned,
  in_block,
  in_lock,
  in_locked,
  ListWay,
  first,
  later,
}
use Rattle.jr_pieces.specs.Standings.{Standing, at_list}
use Rattle.jr_pieces.specs.Finding.{stmt_path, list_path}

module _ {A : Type 0} {f : tree.Exp A} where
  -- the number of the element of the list through which the way goes, and the path from there
  abbrev pub list_step : {b : statement.Stmts A} → ListWay f b → ℕ
  list_step (first s ss d) = 0
  list_step (later s ss d) = suc (list_step d)

  abbrev pub list_rest : {b : statement.Stmts A} → ListWay f b → List ℕ
  list_rest (first s ss d) = stmt_path d
  list_rest (later s ss d) = list_rest d

  -- how the expression stands, where the whole stands so
  abbrev mutual
    pub exp_role : {e : tree.Exp A} → Role → ExpWay f e → Role
    exp_role r here = r
    exp_role r (in_front m e w d) = exp_role left d
    exp_role r (in_target m e w es d) = exp_role left d
    exp_role r (in_argument m t w es d) = exps_role d
    exp_role r (in_super_argument m w es d) = exps_role d
    exp_role r (in_created m t es d) = exps_role d
    exp_role r (in_paren m e d) = exp_role value d
    exp_role r (in_cast m t e d) = exp_role value d
    exp_role r (in_unary m o e d) = exp_role value d
    exp_role r (in_bump m o e d) = exp_role value d
    exp_role r (in_left m o x y d) = exp_role value d
    exp_role r (in_right m o x y d) = exp_role value d
    exp_role r (in_assigned m t e d) = exp_role value d
    exp_role r (in_value m t e d) = exp_role value d
    exp_role r (in_changed m o t e d) = exp_role value d
    exp_role r (in_change m o t e d) = exp_role value d

    pub exps_role : {es : tree.Exps A} → ExpsWay f es → Role
    exps_role (first_argument e es d) = exp_role value d
    exps_role (later_argument e es d) = exps_role d

  abbrev mutual
    pub stmt_role : {s : statement.Stmt A} → StmtWay f s → Role
    stmt_role (in_init m is_final t w e d) = exp_role value d
    stmt_role (in_eval m e d) = exp_role role.statement d
    stmt_role (in_condition m c s o d) = exp_role value d
    stmt_role (in_then m c s o d) = stmt_role d
    stmt_role (in_else m c s o d) = stmt_role d
    stmt_role (in_turning m c s d) = exp_role value d
    stmt_role (in_body m c s d) = stmt_role d
    stmt_role (in_returned m e d) = exp_role value d
    stmt_role (in_block m b d) = list_role d
    stmt_role (in_lock m e b d) = exp_role value d
    stmt_role (in_locked m e b d) = list_role d

    pub list_role : {b : statement.Stmts A} → ListWay f b → Role
    list_role (first s ss d) = stmt_role d
    list_role (later s ss d) = list_role d

-- ---- types

-- The path of the way leads to the types that the expression has there.
pub record LeadsToType {A : Type 0} (begins : A → ℕ → ℕ) (rows : List Row) {f : tree.Exp A}
    {b : statement.Stmts A} (p : Standing) (d : ListWay f b) : Type 0 where
  pub path : (n : ℕ) → list_path n d ≡ (n + list_step d) ∷ list_rest d
  pub types : (t : Ty) → TypeInStmts rows p.next p.context b (list_step d) (list_rest d) t
      ↔ HasType rows (at_list begins p d).context f t

abbrev pub WaysLeadToTypes : Type 0 → Type 0
WaysLeadToTypes A = (begins : A → ℕ → ℕ) (rows : List Row) (f : tree.Exp A)
    (b : statement.Stmts A) (p : Standing) (d : ListWay f b) → LeadsToType begins rows p d

-- ---- what is bound and broken

-- What the expression binds or breaks itself where it stands, the list does.
pub record IsWalked {A : Type 0} (begins : A → ℕ → ℕ) (rows : List Row) {f : tree.Exp A}
    {b : statement.Stmts A} (p : Standing) (w : ListWay f b) : Type 0 where
  pub binds : (at : ℕ) (d : Decl) → BindsItself begins rows (at_list begins p w).context
      (list_role w) (at_list begins p w).base f at d
      → InStmts begins (λ c r base e. BindsItself begins rows c r base e at d)
      (λ n c base s. StmtBindsItself begins rows n c base s at d) (λ base ss. ⊥) p.next p.context
      p.base b
  pub breaks : (at : ℕ) (k : Rule) → ExpBreaks begins rows (at_list begins p w).context
      (list_role w) (at_list begins p w).base f at k
      → InStmts begins (λ c r base e. ExpBreaks begins rows c r base e at k)
      (λ n c base s. StmtBreaks begins rows n c base s at k)
      (λ base ss. ListBreaks begins base ss at k) p.next p.context p.base b

abbrev pub WaysAreWalked : Type 0 → Type 0
WaysAreWalked A = (begins : A → ℕ → ℕ) (rows : List Row) (f : tree.Exp A)
    (b : statement.Stmts A) (p : Standing) (w : ListWay f b) → IsWalked begins rows p w

-- ---- values

-- What has a type is no class's name.
abbrev pub TypedAreNoClasses : Type 0 → Type 0
TypedAreNoClasses A = (rows : List Row) → AreRows rows → (c : Context) (e : tree.Exp A) (t : Ty)
    (k : ClassKey) → HasType rows c e t → IsClassName rows c e k → ⊥
