use Rattle.std.proofs.Common.{◌+◌, ◌*◌, ◌≡◌, ◌++◌, drop}
use Rattle.std.specs.Prelude.{string_bytes}
use Rattle.jr_ast.specs.View.{expr_of, exprs_of, target_of}
use Rattle.jr_ast.proofs.Sizes.{exp_size, exps_size, target_size}
use Rattle.jr_print.specs.ExpressionText.{printed_more}
use Rattle.jr_print.proofs.exprs.+expr_texts.Given as goal

abbrev pub decreases-expr : goal.decreases-expr
decreases-expr g l = 4 * exp_size (expr_of l.of.now)

abbrev pub decreases-target : goal.decreases-target
decreases-target g l = 4 * target_size (target_of l.of.now) + 1

abbrev pub decreases-arguments : goal.decreases-arguments
decreases-arguments g l = 4 * exps_size (exprs_of l.parts.now) + 3

abbrev pub decreases-list : goal.decreases-list
decreases-list g l = 4 * exps_size (exprs_of l.parts.now) + 2

abbrev pub decreases-more : goal.decreases-more
decreases-more g l = 4 * exps_size (exprs_of l.parts.now) + 1

-- what is printed, with what is left, is all
abbrev pub invariant-more-loop-part : goal.invariant-more-loop-part
invariant-more-loop-part g l = string_bytes l.out ++ printed_more (exprs_of (drop l.part-index l.parts)) ≡ string_bytes l.initial.out ++ printed_more (exprs_of l.parts)
