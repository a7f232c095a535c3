use Rattle.std.proofs.Common.{◌≡◌, ◌∙◌, ap, sym, subst, ◌++◌, ◌∷◌, [], option_map, true, false}
use Rattle.jr_text.specs.declared.spans.Span.{Span}
use Rattle.jr_ast.specs.Marks.{exp_mark}
use Rattle.jr_ast.specs.View.{expr_of}
use Rattle.jr_ast.proofs.Rows.{expr_mark_is}
use Rattle.jr_pieces.specs.Finding.{same_span}
use Rattle.jr_piece_search.specs.Sought.{barred}
use Rattle.jr_piece_search.specs.StepView.{use_of, bars_of, step_of}
use Rattle.jr_piece_search.proofs.Leading.{Of, Falls, falls}
use Rattle.jr_piece_search.proofs.Going.{starts, goes, found, none, same_place}
use Rattle.jr_piece_search.proofs.Choosing.{is_same}
use Rattle.jr_piece_search.proofs.exprs.in_expr.Goals as goal

pub loop-of-init : goal.loop-of-init
loop-of-init c = starts c.args.span.now (use_of c.args.usage) (bars_of c.args.bars) (expr_of c.args.of.now) c.args.path.now.items

pub returns-then-is_span : goal.returns-then-is_span
returns-then-is_span c =
    let l = c.loop-of in
    found c.args.span.now (use_of c.args.usage) (bars_of c.args.bars) (expr_of c.args.of.now) c.args.path.now.items (use_of l.usage) (bars_of l.bars) (expr_of l.of.now) l.path.items l.invariant
    (expr_mark_is l.of.now ∙ is_same l.of.now.mark c.args.span.now (sym c.is_span.ensures ∙ c.if-is_span.true))

pub returns-in-None : goal.returns-in-None
returns-in-None c =
    let l = c.loop-of in
    let other : same_span (exp_mark (expr_of l.of.now)) c.args.span.now ≡ false = ap (λ (m : Span). same_span m c.args.span.now) (expr_mark_is l.of.now) ∙ sym c.is_span.ensures ∙ c.if-is_span.false in
    none c.args.span.now (use_of c.args.usage) (bars_of c.args.bars) (expr_of c.args.of.now) c.args.path.now.items (use_of l.usage) (bars_of l.bars) (expr_of l.of.now) l.path.items l.invariant other
    (sym c.in_ok-step.ensures ∙ ap (option_map step_of) c.in-None.is)

pub loop-of-smaller : goal.loop-of-smaller
loop-of-smaller c =
    let l = c.loop-of in
    subst (Of (Falls (expr_of l.of.now))) (sym c.in_ok-step.ensures ∙ ap (option_map step_of) c.in-Some.is) (falls c.args.span.now (expr_of l.of.now))

pub loop-of-preserved : goal.loop-of-preserved
loop-of-preserved c =
    let l = c.loop-of in
    let s = c.args.span.now in
    let x = step_of c.in-Some.into in
    let u = use_of c.args.usage in
    let b = bars_of c.args.bars in
    let e = expr_of c.args.of.now in
    let old = c.args.path.now.items in
    let other : same_span (exp_mark (expr_of l.of.now)) s ≡ false = ap (λ (m : Span). same_span m s) (expr_mark_is l.of.now) ∙ sym c.is_span.ensures ∙ c.if-is_span.false in
    let g = goes s u b e old (use_of l.usage) (bars_of l.bars) (expr_of l.of.now) l.path.items x l.invariant other (sym c.in_ok-step.ensures ∙ ap (option_map step_of) c.in-Some.is) in
    same_place s u b e old x.usage (barred (bars_of l.bars) x.lazy (exp_mark (expr_of l.of.now)).from) (bars_of c.step_bars-bars.result) x.part (l.path.items ++ x.number ∷ []) _
    (c.step_bars-bars.ensures ∙ ap (λ (m : Span). barred (bars_of l.bars) x.lazy m.from) (sym (expr_mark_is l.of.now))) c.in_ok-push-in-Some.ensures.items g
