use Rattle.std.proofs.Common.{◌≡◌, ◌∙◌, ◌++◌, ◌∷◌, [], ℕ, List, ap, sym, subst, option_map}
use Rattle.jr_text.specs.declared.spans.Span.{Span}
use Rattle.jr_ast.specs.Marks.{stmt_mark}
use Rattle.jr_ast.specs.View.{expr_of, stmt_of}
use Rattle.jr_ast.proofs.Rows.{stmt_mark_is}
use Rattle.jr_piece_search.specs.Sought.{Bars, barred, IsFoundIn}
use Rattle.jr_piece_search.specs.StepView.{bars_of, in_expr_of, use_of}
use Rattle.jr_piece_search.specs.Turning.{ended}
use Rattle.jr_piece_search.proofs.search.to_value.Goals as goal

pub returns : goal.returns
returns c =
    let s = c.args.span.now in
    let u = use_of c.args.usage in
    let e = expr_of c.args.part.now in
    let place = c.args.place in
    let new = c.in_expr.new.path.items in
    let o = option_map in_expr_of c.in_ok-within.within in
    let bars : bars_of c.step_bars-bars.result ≡ barred (bars_of place.bars) c.args.again (stmt_mark (stmt_of place.of.now)).from =
    c.step_bars-bars.ensures ∙ ap (λ (m : Span). barred (bars_of place.bars) c.args.again m.from) (sym (stmt_mark_is place.of.now)) in
    let found = subst (λ (p : List ℕ). IsFoundIn s u (bars_of c.step_bars-bars.result) e p new o) c.in_ok-push.ensures.items c.in_ok-within.ensures in
    (o, subst (λ (b : Bars). IsFoundIn s u b e (c.args.path.now.items ++ c.args.number ∷ []) new o) bars found, ap ended c.with_list.ensures)
