-- The mark of an expression is that of its pure tree.
use Rattle.std.proofs.Common.{◌≡◌, refl}
use Rattle.jr_text.specs.declared.spans.Span.{Span}
use Rattle.jr_ast.specs.declared.exprs.Expr.{Expr}
use Rattle.jr_ast.specs.declared.exprs.ExprKind.{ExprKind, Call'}
use Rattle.jr_ast.specs.Marks.{exp_mark}
use Rattle.jr_ast.specs.View.{expr_of, expr_kind, held_target, expr_row}

mark_kind : (m : Span) (k : ExprKind Span) → exp_mark (expr_kind m k) ≡ m
unfolding expr_kind held_target expr_row
mark_kind m (Call' h i shape row) = refl
mark_kind m _ = refl

pub mark_is : (e : Expr Span) → exp_mark (expr_of e) ≡ e.mark
mark_is e = mark_kind e.mark e.kind
