-- The arguments of a call, as a list.
use Rattle.std.proofs.Common.{◌≡◌, ◌≢◌, List, [], ◌∷◌, ◌++◌, length, None, refl, ap}
use Rattle.jr_text.specs.declared.spans.Span.{Span}
use Rattle.jr_ast.specs.declared.exprs.Expr.{Expr}
use Rattle.jr_ast.specs.Tree.{more}
use Rattle.jr_ast.specs.View.{expr_of, exprs_of}
use Rattle.jr_pexpr.specs.Machine.{Head, Frame, in_args, with_last, emptied}
use Rattle.jr_pexpr.specs.Marked.{join}

pub exprs-append : (es : List (Expr Span)) (e : Expr Span) → exprs_of (es ++ e ∷ []) ≡ with_last (exprs_of es) (expr_of e)
exprs-append [] e = refl
exprs-append (d ∷ es) e = ap (more (expr_of d)) (exprs-append es e)

pub not_emptied : (at : Span) (h : Head Span) (es : List (Expr Span)) (fs : List (Frame Span)) → length es ≢ 0 → None ≡ emptied join at (in_args h (exprs_of es) ∷ fs)
not_emptied at h [] fs n = absurd (n refl)
not_emptied at h (e ∷ es) fs n = refl
