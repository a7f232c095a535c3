use Rattle.std.proofs.Common.{◌∙◌, ap, arith, sym, refl}
use Rattle.std.proofs.lemmas.Result.{IfOk-weaker}
use Rattle.jr_ast.specs.View.{expr_of, exprs_of, target_of, expr_kind, expr_row, held_target}
use Rattle.jr_ast.proofs.Rows.{expr_kind-Call_to, expr_kind-SuperCall, expr_kind-New}
use Rattle.jr_expr_types.specs.Trees.{none, put, count}
use Rattle.jr_expr_types.specs.TypedTrees.{leaf, exp_parts, target_parts, put_row}
use Rattle.jr_bind_expr.proofs.TypedParts.{row_counted, args_length}
use Rattle.jr_bind_expr.proofs.typing.part_count.Goals as goal

pub returns-in-Call : goal.returns-in-Call
unfolding exp_parts target_parts put_row
returns-in-Call g c = λ rows ctx.
    let m = c.args.of.now.mark in
    let items = c.in-Call.args.items in
    let shape = ap (λ e. count (exp_parts rows ctx e)) (ap (expr_kind m) c.in-Call.is ∙ expr_kind-Call_to _ m c.in-Call.on _ c.in-Call.args) in
    let first = c.first_parts.ensures rows ctx in
    let long = c.len.ensures ∙ c.in-Call.args.ok.0 in
    let more = args_length items in
    let all = row_counted rows ctx (put (target_parts rows ctx (target_of c.in-Call.on)) leaf) (exprs_of items) in
    IfOk-weaker c.more_parts.result _ _ (λ n h. h ∙ omega (arith, first, long, more, all) ∙ sym shape) c.more_parts.ensures

pub returns-in-SuperCall : goal.returns-in-SuperCall
unfolding exp_parts target_parts put_row
returns-in-SuperCall g c = λ rows ctx.
    let m = c.args.of.now.mark in
    let items = c.in-SuperCall.args.items in
    let shape = ap (λ e. count (exp_parts rows ctx e)) (ap (expr_kind m) c.in-SuperCall.is ∙ expr_kind-SuperCall _ m _ c.in-SuperCall.args) in
    let long = c.len-in-SuperCall.ensures ∙ c.in-SuperCall.args.ok.0 in
    let more = args_length items in
    let all = row_counted rows ctx (put none leaf) (exprs_of items) in
    IfOk-weaker c.more_parts-in-SuperCall.result _ _ (λ n h. h ∙ omega (arith, long, more, all) ∙ sym shape) c.more_parts-in-SuperCall.ensures

pub returns-in-New : goal.returns-in-New
unfolding exp_parts target_parts put_row
returns-in-New g c = λ rows ctx.
    let m = c.args.of.now.mark in
    let items = c.in-New.args.items in
    let shape = ap (λ e. count (exp_parts rows ctx e)) (ap (expr_kind m) c.in-New.is ∙ expr_kind-New _ m _ c.in-New.args) in
    let long = c.len-in-New.ensures ∙ c.in-New.args.ok.0 in
    let more = args_length items in
    let all = row_counted rows ctx (put none leaf) (exprs_of items) in
    IfOk-weaker c.more_parts-in-New.result _ _ (λ n h. h ∙ omega (arith, long, more, all) ∙ sym shape) c.more_parts-in-New.ensures
