-- What is known at a place of a member's body, and at the expression to which a way leads.
use Rattle.std.specs.Prelude.{ℕ, ◌+◌, Bool}
use Rattle.jr_ast.specs.Tree as tree
use Rattle.jr_ast.specs.StatementTree as statement
use Rattle.jr_table.specs.Context.{Context, after, in_own, local_of, locals_in}
use Rattle.jr_pieces.specs.Ways.{
  ExpWay,
  here,
  in_front,
  in_target,
  in_argument,
  in_super_argument,
  in_created,
  in_paren,
  in_cast,
  in_unary,
  in_bump,
  in_left,
  in_right,
  in_assigned,
  in_value,
  in_changed,
  in_change,
  ExpsWay,
  first_argument,
  later_argument,
  StmtWay,
  in_init,
  in_eval,
  in_condition,
  in_then,
  in_else,
  in_turning,
  in_body,
  in_returned,
  in_block,
  in_lock,
  in_locked,
  ListWay,
  first,
  later,
}

-- the number of the next local, the locals in scope with the rest of `Context`, and where the
-- parent of what stands there begins
pub record Standing : Type 0 where
  pub next : ℕ
  pub context : Context
  pub base : ℕ

module _ {A : Type 0} (begins : A → ℕ → ℕ) where
  -- in a node with the mark
  abbrev pub inside : A → Standing → Standing
  inside m p = record { next = p.next; context = p.context; base = begins m p.base }

  -- behind a statement of a list (JLS 6.3)
  abbrev pub behind : statement.Stmt A → Standing → Standing
  behind s p = record {
    next = p.next + locals_in s;
    context = after p.next p.context s;
    base = p.base;
  }

  -- in the branch behind `else`, where the locals of the other have their numbers
  abbrev pub in_other : A → statement.Stmt A → Standing → Standing
  in_other m s p = record {
    next = p.next + locals_in s;
    context = p.context;
    base = begins m p.base;
  }

  -- in the initializer of a local, which is in scope there
  abbrev pub in_initializer : A → (is_final : Bool) → tree.TypeName A → tree.Word A → Standing
      → Standing
  in_initializer m is_final t w p = record {
    next = p.next;
    context = in_own p.context (local_of p.context p.next is_final t w);
    base = begins m p.base;
  }

module _ {A : Type 0} (begins : A → ℕ → ℕ) {f : tree.Exp A} where
  abbrev mutual
    pub at_exp : {e : tree.Exp A} → Standing → ExpWay f e → Standing
    at_exp p here = p
    at_exp p (in_front m e w d) = at_exp (inside begins m p) d
    at_exp p (in_target m e w es d) = at_exp (inside begins m p) d
    at_exp p (in_argument m t w es d) = at_exps (inside begins m p) d
    at_exp p (in_super_argument m w es d) = at_exps (inside begins m p) d
    at_exp p (in_created m t es d) = at_exps (inside begins m p) d
    at_exp p (in_paren m e d) = at_exp (inside begins m p) d
    at_exp p (in_cast m t e d) = at_exp (inside begins m p) d
    at_exp p (in_unary m o e d) = at_exp (inside begins m p) d
    at_exp p (in_bump m o e d) = at_exp (inside begins m p) d
    at_exp p (in_left m o l r d) = at_exp (inside begins m p) d
    at_exp p (in_right m o l r d) = at_exp (inside begins m p) d
    at_exp p (in_assigned m t e d) = at_exp (inside begins m p) d
    at_exp p (in_value m t e d) = at_exp (inside begins m p) d
    at_exp p (in_changed m o t e d) = at_exp (inside begins m p) d
    at_exp p (in_change m o t e d) = at_exp (inside begins m p) d

    pub at_exps : {es : tree.Exps A} → Standing → ExpsWay f es → Standing
    at_exps p (first_argument e es d) = at_exp p d
    at_exps p (later_argument e es d) = at_exps p d

  abbrev mutual
    pub at_stmt : {s : statement.Stmt A} → Standing → StmtWay f s → Standing
    at_stmt p (in_init m is_final t w e d) = at_exp (in_initializer begins m is_final t w p) d
    at_stmt p (in_eval m e d) = at_exp (inside begins m p) d
    at_stmt p (in_condition m c s o d) = at_exp (inside begins m p) d
    at_stmt p (in_then m c s o d) = at_stmt (inside begins m p) d
    at_stmt p (in_else m c s o d) = at_stmt (in_other begins m s p) d
    at_stmt p (in_turning m c s d) = at_exp (inside begins m p) d
    at_stmt p (in_body m c s d) = at_stmt (inside begins m p) d
    at_stmt p (in_returned m e d) = at_exp (inside begins m p) d
    at_stmt p (in_block m b d) = at_list (inside begins m p) d
    at_stmt p (in_lock m e b d) = at_exp (inside begins m p) d
    at_stmt p (in_locked m e b d) = at_list (inside begins m p) d

    pub at_list : {b : statement.Stmts A} → Standing → ListWay f b → Standing
    at_list p (first s ss d) = at_stmt p d
    at_list p (later s ss d) = at_list (behind begins s p) d
