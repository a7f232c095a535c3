use Rattle.jr_ast.specs.View.{expr_of}
use Rattle.jr_ast.proofs.Sizes.{exp_size}
use Rattle.jr_expr_sites.proofs.checks.+is_never_null.Given as goal

abbrev pub decreases-is_never_null : goal.decreases-is_never_null
decreases-is_never_null g l = exp_size (expr_of l.of.now)
