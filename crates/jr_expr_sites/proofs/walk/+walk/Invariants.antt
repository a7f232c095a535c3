use Rattle.std.proofs.Common.{◌+◌, ◌*◌, drop}
use Rattle.jr_ast.specs.View.{expr_of, exprs_of, target_of}
use Rattle.jr_ast.proofs.Sizes.{exp_size, exps_size, target_size}
use Rattle.jr_bind_expr.specs.Fits.{FitsExps}
use Rattle.jr_expr_sites.specs.StepView.{given}
use Rattle.jr_expr_sites.specs.Routes.{begins_by}
use Rattle.jr_expr_sites.proofs.Arms.{Left}
use Rattle.jr_expr_sites.proofs.walk.+walk.Given as goal

abbrev pub decreases-expr : goal.decreases-expr
decreases-expr g l = 5 * exp_size (expr_of l.of.now)

abbrev pub decreases-operand : goal.decreases-operand
decreases-operand g l = 5 * exp_size (expr_of l.part.now) + 1

abbrev pub decreases-left : goal.decreases-left
decreases-left g l = 5 * exp_size (expr_of l.part.now) + 2

abbrev pub decreases-target_operand : goal.decreases-target_operand
decreases-target_operand g l = 5 * exp_size (expr_of l.to.now) + 1

abbrev pub decreases-field : goal.decreases-field
decreases-field g l = 5 * exp_size (expr_of l.part.now) + 3

abbrev pub decreases-receiver : goal.decreases-receiver
decreases-receiver g l = 5 * target_size (target_of l.target.now) + 3

abbrev pub decreases-call : goal.decreases-call
decreases-call g l = 5 * (target_size (target_of l.target.now) + exps_size (exprs_of l.args.now)) + 4

abbrev pub decreases-super_call : goal.decreases-super_call
decreases-super_call g l = 5 * exps_size (exprs_of l.args.now) + 3

abbrev pub decreases-create : goal.decreases-create
decreases-create g l = 5 * exps_size (exprs_of l.args.now) + 3

abbrev pub decreases-cast : goal.decreases-cast
decreases-cast g l = 5 * exp_size (expr_of l.part.now) + 2

abbrev pub decreases-bump : goal.decreases-bump
decreases-bump g l = 5 * exp_size (expr_of l.to.now) + 2

abbrev pub decreases-binary : goal.decreases-binary
decreases-binary g l = 5 * (exp_size (expr_of l.left.now) + exp_size (expr_of l.right.now)) + 2

abbrev pub decreases-assign : goal.decreases-assign
decreases-assign g l = 5 * (exp_size (expr_of l.to.now) + exp_size (expr_of l.value.now)) + 2

abbrev pub decreases-compound : goal.decreases-compound
decreases-compound g l = 5 * (exp_size (expr_of l.to.now) + exp_size (expr_of l.value.now)) + 2

abbrev pub decreases-exprs : goal.decreases-exprs
decreases-exprs g l = 5 * exps_size (exprs_of l.parts.now) + 2

abbrev pub invariant-exprs-loop-part : goal.invariant-exprs-loop-part
invariant-exprs-loop-part g l = record {
  fits : FitsExps (begins_by g.A.Mark.span_from) g.A.Mark.fits_at l.at (exprs_of (drop l.part-index l.parts));
  left : Left g.A.Mark.span_from g.A.Mark.fits_at (given g.F.Facts.decls g.F.Facts.types l.here) l.path.steps.items l.first l.at l.parts l.fn.out.items l.out.items l.step l.part-index;
}
