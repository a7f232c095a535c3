use Rattle.std.proofs.Common.{◌≡◌, ◌∙◌, ap, sym, subst, true, false, Option, option_map}
use Rattle.std.specs.Prelude.{IfOk}
use Rattle.std.specs.Global.{Global}
use Rattle.std.specs.declared.boxed.Box.{Box}
use Rattle.jr_text.specs.declared.spans.Span.{Span}
use Rattle.jr_ast.specs.declared.exprs.Expr.{Expr}
use Rattle.jr_ast.specs.Marks.{exp_mark}
use Rattle.jr_ast.specs.View.{expr_of, exprs_of, target_of}
use Rattle.jr_grammar.specs.Layout.{itself}
use Rattle.jr_pieces.specs.Finding.{is_behind}
use Rattle.jr_pieces.specs.Uses.{valued}
use Rattle.jr_piece_search.specs.Steps.{Step, into, in_row, in_call}
use Rattle.jr_piece_search.specs.StepView.{step_of}
use Rattle.jr_piece_search.proofs.Choosing.{then_is, else_is}
use Rattle.jr_piece_search.proofs.steps.in_call.Goals as goal

pub returns-then-passes : goal.returns-then-passes
returns-then-passes c =
    let s = c.args.span.now in
    let x = c.in-Some.part.value in
    let es = exprs_of c.args.args.now in
    let test : is_behind itself s (exp_mark (expr_of x)) ≡ true = ap (λ (y : Expr Span). is_behind itself s (exp_mark (expr_of y))) (sym c.deref.ensures) ∙ sym c.passes.ensures ∙ c.if-passes.true in
    let is : in_row s 2 es ≡ in_call s (target_of c.args.target.now) es =
    then_is (is_behind itself s (exp_mark (expr_of x))) (in_row s 2 es) (into 0 valued false (expr_of x)) test ∙ sym (ap (λ (o : Option (Box (Expr Span) Global)). in_call s (target_of o) es) c.in-Some.is) in
    subst (λ (y : Option Step). IfOk c.in_row-then-passes.result (λ o. option_map step_of o ≡ y)) is c.in_row-then-passes.ensures

pub returns-else-passes : goal.returns-else-passes
returns-else-passes c =
    let s = c.args.span.now in
    let x = c.in-Some.part.value in
    let es = exprs_of c.args.args.now in
    let test : is_behind itself s (exp_mark (expr_of x)) ≡ false = ap (λ (y : Expr Span). is_behind itself s (exp_mark (expr_of y))) (sym c.deref.ensures) ∙ sym c.passes.ensures ∙ c.if-passes.false in
    c.into.ensures ∙ ap (λ (y : Expr Span). into 0 valued false (expr_of y)) c.deref-else-passes.ensures
    ∙ else_is (is_behind itself s (exp_mark (expr_of x))) (in_row s 2 es) (into 0 valued false (expr_of x)) test ∙ sym (ap (λ (o : Option (Box (Expr Span) Global)). in_call s (target_of o) es) c.in-Some.is)
