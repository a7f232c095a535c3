use Rattle.jr_ast.specs.View.{expr_of}
use Rattle.jr_ast.proofs.Sizes.{exp_size}
use Rattle.jr_piece_search.specs.StepView.{use_of, bars_of}
use Rattle.jr_piece_search.proofs.Going.{Going}
use Rattle.jr_piece_search.proofs.exprs.in_expr.Given as goal

abbrev pub invariant-loop-of : goal.invariant-loop-of
invariant-loop-of l = Going l.span (use_of l.fn.usage) (bars_of l.fn.bars) (expr_of l.fn.of) l.fn.path.items (use_of l.usage) (bars_of l.bars) (expr_of l.of) l.path.items

abbrev pub decreases-loop-of : goal.decreases-loop-of
decreases-loop-of l = exp_size (expr_of l.of)
