use Rattle.std.proofs.Common.{◌+◌, ◌*◌, drop}
use Rattle.jr_ast.specs.View.{expr_of, exprs_of, target_of}
use Rattle.jr_ast.proofs.Sizes.{exp_size, exps_size, target_size}
use Rattle.jr_new_bodies.specs.Effects.{Effect}
use Rattle.jr_new_bodies.specs.OutputView.{gathered}
use Rattle.jr_new_bodies.specs.Known.{RowReady}
use Rattle.jr_new_bodies.specs.Walks.{RowGathers}
use Rattle.jr_new_bodies.proofs.walk.+walk.Given as goal

abbrev pub decreases-expr : goal.decreases-expr
decreases-expr g l = 6 * exp_size (expr_of l.of.now)

abbrev pub decreases-asked : goal.decreases-asked
decreases-asked g l = 6 * exp_size (expr_of l.of.now) + 1

abbrev pub decreases-target : goal.decreases-target
decreases-target g l = 6 * exp_size (expr_of l.of.now) + 1

abbrev pub decreases-assigned : goal.decreases-assigned
decreases-assigned g l = 6 * (exp_size (expr_of l.to.now) + exp_size (expr_of l.of.now)) + 3

abbrev pub decreases-operand : goal.decreases-operand
decreases-operand g l = 6 * exp_size (expr_of l.part.now) + 2

abbrev pub decreases-pair : goal.decreases-pair
decreases-pair g l = 6 * (exp_size (expr_of l.left.now) + exp_size (expr_of l.right.now)) + 3

abbrev pub decreases-cast : goal.decreases-cast
decreases-cast g l = 6 * exp_size (expr_of l.part.now) + 3

abbrev pub decreases-operand_and_word : goal.decreases-operand_and_word
decreases-operand_and_word g l = 6 * exp_size (expr_of l.part.now) + 2

abbrev pub decreases-field : goal.decreases-field
decreases-field g l = 6 * exp_size (expr_of l.part.now) + 3

abbrev pub decreases-call_on : goal.decreases-call_on
decreases-call_on g l = 6 * exp_size (expr_of l.part.now) + 3

abbrev pub decreases-target_word : goal.decreases-target_word
decreases-target_word g l = 6 * target_size (target_of l.target.now) + 4

abbrev pub decreases-call : goal.decreases-call
decreases-call g l = 6 * (target_size (target_of l.target.now) + exps_size (exprs_of l.args.now)) + 5

abbrev pub decreases-super_call : goal.decreases-super_call
decreases-super_call g l = 6 * exps_size (exprs_of l.args.now) + 4

abbrev pub decreases-create : goal.decreases-create
decreases-create g l = 6 * exps_size (exprs_of l.args.now) + 4

abbrev pub decreases-exprs : goal.decreases-exprs
decreases-exprs g l = 6 * exps_size (exprs_of l.parts.now) + 3

-- what is left is ready, and with what it gives, all is given
abbrev pub invariant-exprs-loop-part : goal.invariant-exprs-loop-part
invariant-exprs-loop-part g l = record {
  ready : RowReady g.A.Mark.span_from g.A.Mark.fits_at l.here l.path.steps.items l.step l.at (exprs_of (drop l.part-index l.parts));
  gives : (new : Effect) → RowGathers g.A.Mark.span_from l.here l.at (exprs_of (drop l.part-index l.parts)) (gathered l.out) new → RowGathers g.A.Mark.span_from l.here l.at (exprs_of l.parts) (gathered l.fn.out) new;
}
