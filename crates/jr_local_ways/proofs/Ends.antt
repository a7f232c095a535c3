-- A way ends at the span of its expression.
use Rattle.std.proofs.Common.{◌≡◌, ℕ, refl}
use Rattle.jr_text.specs.declared.spans.Span.{Span}
use Rattle.jr_ast.specs.Tree as tree
use Rattle.jr_ast.specs.StatementTree as statement
use Rattle.jr_ast.specs.Marks.{exp_mark}
use Rattle.jr_grammar.specs.Layout.{itself}
use Rattle.jr_pieces.specs.Ways.{ExpWay, here, in_front, in_target, in_argument, in_super_argument, in_created, in_paren, in_cast, in_unary, in_bump, in_left, in_right, in_assigned, in_value, in_changed, in_change}
use Rattle.jr_pieces.specs.Ways.{ExpsWay, first_argument, later_argument, StmtWay, in_init, in_eval, in_condition, in_then, in_else, in_turning, in_body, in_returned, in_block, in_lock, in_locked, ListWay, first, later}
use Rattle.jr_pieces.specs.Finding.{exp_end, exps_end, stmt_end, list_end}

module _ (f : tree.Exp Span) where
  mutual
    exp_ends : (e : tree.Exp Span) (d : ExpWay f e) (base : ℕ) → exp_end itself base d ≡ exp_mark f
    exp_ends e here base = refl
    exp_ends e (in_front m x w d) base = exp_ends x d m.from
    exp_ends e (in_target m x w es d) base = exp_ends x d m.from
    exp_ends e (in_argument m t w es d) base = exps_ends es d m.from
    exp_ends e (in_super_argument m w es d) base = exps_ends es d m.from
    exp_ends e (in_created m t es d) base = exps_ends es d m.from
    exp_ends e (in_paren m x d) base = exp_ends x d m.from
    exp_ends e (in_cast m t x d) base = exp_ends x d m.from
    exp_ends e (in_unary m o x d) base = exp_ends x d m.from
    exp_ends e (in_bump m o x d) base = exp_ends x d m.from
    exp_ends e (in_left m o l r d) base = exp_ends l d m.from
    exp_ends e (in_right m o l r d) base = exp_ends r d m.from
    exp_ends e (in_assigned m t x d) base = exp_ends t d m.from
    exp_ends e (in_value m t x d) base = exp_ends x d m.from
    exp_ends e (in_changed m o t x d) base = exp_ends t d m.from
    exp_ends e (in_change m o t x d) base = exp_ends x d m.from

    exps_ends : (es : tree.Exps Span) (d : ExpsWay f es) (base : ℕ) → exps_end itself base d ≡ exp_mark f
    exps_ends es (first_argument e xs d) base = exp_ends e d base
    exps_ends es (later_argument e xs d) base = exps_ends xs d base

  mutual
    stmt_ends : (x : statement.Stmt Span) (d : StmtWay f x) (base : ℕ) → stmt_end itself base d ≡ exp_mark f
    stmt_ends x (in_init m is_final t w e d) base = exp_ends e d m.from
    stmt_ends x (in_eval m e d) base = exp_ends e d m.from
    stmt_ends x (in_condition m c y o d) base = exp_ends c d m.from
    stmt_ends x (in_then m c y o d) base = stmt_ends y d m.from
    stmt_ends x (in_else m c y o d) base = stmt_ends o d m.from
    stmt_ends x (in_turning m c y d) base = exp_ends c d m.from
    stmt_ends x (in_body m c y d) base = stmt_ends y d m.from
    stmt_ends x (in_returned m e d) base = exp_ends e d m.from
    stmt_ends x (in_block m b d) base = list_ends b d m.from
    stmt_ends x (in_lock m e b d) base = exp_ends e d m.from
    stmt_ends x (in_locked m e b d) base = list_ends b d m.from

    pub list_ends : (b : statement.Stmts Span) (d : ListWay f b) (base : ℕ) → list_end itself base d ≡ exp_mark f
    list_ends b (first x xs d) base = stmt_ends x d base
    list_ends b (later x xs d) base = list_ends xs d base
