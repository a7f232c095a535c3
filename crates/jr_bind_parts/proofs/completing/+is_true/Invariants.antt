use Rattle.jr_ast.specs.View.{expr_of}
use Rattle.jr_ast.proofs.Sizes.{exp_size}
use Rattle.jr_bind_parts.proofs.completing.+is_true.Given as goal

abbrev pub decreases-is_true : goal.decreases-is_true
decreases-is_true g l = exp_size (expr_of l.of.now)
