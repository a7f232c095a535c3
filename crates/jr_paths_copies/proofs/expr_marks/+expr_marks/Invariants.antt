use Rattle.std.proofs.Common.{◌+◌, ◌*◌, ◌≡◌, take, map, Option}
use Rattle.std.specs.Fn.{FnReturnsAt}
use Rattle.jr_ast.specs.View.{expr_of, exprs_of, target_of}
use Rattle.jr_ast.specs.Remarked as maps
use Rattle.jr_paths_copies.specs.Same as same
use Rattle.jr_ast.proofs.Sizes.{exp_size, exps_size, target_size}
use Rattle.jr_paths_copies.proofs.expr_marks.+expr_marks.Given as goal

abbrev pub decreases-expr : goal.decreases-expr
decreases-expr g l = 3 * exp_size (expr_of l.of.now)

abbrev pub decreases-target_expr : goal.decreases-target_expr
decreases-target_expr g l = 3 * target_size (target_of l.of.now) + 1

abbrev pub decreases-exprs : goal.decreases-exprs
decreases-exprs g l = 3 * exps_size (exprs_of l.parts.now) + 1

-- the copies so far are those of the parts so far
abbrev pub invariant-exprs-loop-part : goal.invariant-exprs-loop-part
invariant-exprs-loop-part g l =
    (h : g.row.B.Denot → Option g.row.B.Denot) (k : g.row.A.Denot → Option g.row.B.Denot) → same.Agree (FnReturnsAt g.F.Fn l.f) h k
    → map (λ x. maps.map_exp h (expr_of x)) l.copies.items ≡ map (λ x. maps.map_exp k (expr_of x)) (take l.part-index l.parts)
