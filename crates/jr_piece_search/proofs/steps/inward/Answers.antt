use Rattle.std.proofs.Common.{◌≡◌, ◌∙◌, ap, sym, subst, List, option_map}
use Rattle.std.specs.Prelude.{IfOk}
use Rattle.jr_text.specs.declared.spans.Span.{Span}
use Rattle.jr_ast.specs.declared.exprs.Expr.{Expr}
use Rattle.jr_ast.specs.Tree as tree
use Rattle.jr_ast.specs.View.{expr_kind, exprs_of, target_of}
use Rattle.jr_ast.proofs.Rows.{expr_kind-Call_to, expr_kind-SuperCall, expr_kind-New}
use Rattle.jr_piece_search.specs.Steps.{in_row, in_call, inward}
use Rattle.jr_piece_search.specs.StepView.{step_of}
use Rattle.jr_piece_search.proofs.steps.inward.Goals as goal

pub returns-in-Call : goal.returns-in-Call
returns-in-Call c =
    let m = c.args.of.now.mark in
    let at = c.in-Call in
    subst (λ (x : tree.Exp Span). IfOk c.in_call.result (λ o. option_map step_of o ≡ inward c.args.span.now x)) (sym (ap (expr_kind m) at.is ∙ expr_kind-Call_to _ m at.target at.field-1 at.args))
    (subst (λ (xs : List (Expr Span)). IfOk c.in_call.result (λ o. option_map step_of o ≡ in_call c.args.span.now (target_of at.target) (exprs_of xs))) c.deref-in-Call.ensures.value c.in_call.ensures)

pub returns-in-SuperCall : goal.returns-in-SuperCall
returns-in-SuperCall c =
    let m = c.args.of.now.mark in
    let at = c.in-SuperCall in
    subst (λ (x : tree.Exp Span). IfOk c.in_row.result (λ o. option_map step_of o ≡ inward c.args.span.now x)) (sym (ap (expr_kind m) at.is ∙ expr_kind-SuperCall _ m at.field-0 at.args))
    (subst (λ (xs : List (Expr Span)). IfOk c.in_row.result (λ o. option_map step_of o ≡ in_row c.args.span.now 1 (exprs_of xs))) c.deref-in-SuperCall.ensures.value c.in_row.ensures)

pub returns-in-New : goal.returns-in-New
returns-in-New c =
    let m = c.args.of.now.mark in
    let at = c.in-New in
    subst (λ (x : tree.Exp Span). IfOk c.in_row-in-New.result (λ o. option_map step_of o ≡ inward c.args.span.now x)) (sym (ap (expr_kind m) at.is ∙ expr_kind-New _ m at.field-0 at.args))
    (subst (λ (xs : List (Expr Span)). IfOk c.in_row-in-New.result (λ o. option_map step_of o ≡ in_row c.args.span.now 1 (exprs_of xs))) c.deref-in-New.ensures.value c.in_row-in-New.ensures)
