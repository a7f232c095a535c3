use Rattle.std.proofs.Common.{◌+◌, ◌*◌, ◌≡◌, drop}
use Rattle.jr_ast.specs.View.{expr_of, exprs_of, target_of}
use Rattle.jr_ast.proofs.Sizes.{exp_size, exps_size, target_size}
use Rattle.jr_mentions.specs.ApartView.{names_in}
use Rattle.jr_mentions.specs.AvoidTests.{avoids_row}
use Rattle.jr_mentions.proofs.avoiding.+expr_walk.Given as goal

abbrev pub decreases-spares_expr : goal.decreases-spares_expr
decreases-spares_expr g l = 2 * exp_size (expr_of l.of.now)

abbrev pub decreases-spares_target : goal.decreases-spares_target
decreases-spares_target g l = 2 * target_size (target_of l.of.now) + 1

abbrev pub decreases-spares_row : goal.decreases-spares_row
decreases-spares_row g l = 2 * exps_size (exprs_of l.args.now) + 1

-- what is left passes, if all does
abbrev pub invariant-spares_row-loop-arg : goal.invariant-spares_row-loop-arg
invariant-spares_row-loop-arg g l = avoids_row (names_in l.apart) (exprs_of (drop l.arg-index l.args)) ≡ avoids_row (names_in l.apart) (exprs_of l.args)
