use Rattle.std.proofs.Common.{sym, ap, ◌∙◌}
use Rattle.std.specs.Prelude.{◌&&◌}
use Rattle.jr_ast.specs.View.{expr_of, exprs_of, target_of, expr_kind, expr_row, held_target}
use Rattle.jr_ast.proofs.Rows.{expr_kind-Call_to, expr_kind-SuperCall, expr_kind-New}
use Rattle.jr_ast.proofs.Sizes.{exp_size, exps_size, target_size, exps_add}
use Rattle.jr_mentions.specs.ApartView.{names_in}
use Rattle.jr_mentions.specs.AvoidTests.{avoids_exp, avoids_target, avoids_row}
use Rattle.jr_mentions.proofs.TestLoops.{all_fails, all_goes, all_ends}
use Rattle.jr_mentions.proofs.TreeLoops.{expr_test, exprs_test, no_exprs, more_exprs}
use Rattle.jr_mentions.proofs.TreeMeasures.{less, falls_left, falls_right, falls_only, falls_held, falls_item}
use Rattle.jr_mentions.proofs.avoiding.+expr_walk.Goals as goal

pub spares_expr-spares_expr-requires : goal.spares_expr-spares_expr-requires
unfolding exp_size exps_size target_size expr_kind expr_row held_target
spares_expr-spares_expr-requires g t c =
    let whole = exp_size (expr_of c.args.of.now) in
    let m = c.args.of.now.mark in
    let at = c.in-Field in
    λ κs o. (less _ t (falls_only (λ x. exp_size (expr_of x)) whole at.part.value c.deref.result.now t c.deref.ensures (ap (λ d. exp_size (expr_kind m d)) at.is) c.decreases), o)

pub spares_expr-spares_expr-requires-in-Paren : goal.spares_expr-spares_expr-requires-in-Paren
unfolding exp_size exps_size target_size expr_kind expr_row held_target
spares_expr-spares_expr-requires-in-Paren g t c =
    let whole = exp_size (expr_of c.args.of.now) in
    let m = c.args.of.now.mark in
    let at = c.in-Paren in
    λ κs o. (less _ t (falls_only (λ x. exp_size (expr_of x)) whole at.part.value c.deref-in-Paren.result.now t c.deref-in-Paren.ensures (ap (λ d. exp_size (expr_kind m d)) at.is) c.decreases), o)

pub spares_expr-spares_expr-requires-in-Cast : goal.spares_expr-spares_expr-requires-in-Cast
unfolding exp_size exps_size target_size expr_kind expr_row held_target
spares_expr-spares_expr-requires-in-Cast g t c =
    let whole = exp_size (expr_of c.args.of.now) in
    let m = c.args.of.now.mark in
    let at = c.in-Cast in
    λ κs o. (less _ t (falls_only (λ x. exp_size (expr_of x)) whole at.part.value c.deref-in-Cast.result.now t c.deref-in-Cast.ensures (ap (λ d. exp_size (expr_kind m d)) at.is) c.decreases), o)

pub spares_expr-spares_expr-requires-in-Unary : goal.spares_expr-spares_expr-requires-in-Unary
unfolding exp_size exps_size target_size expr_kind expr_row held_target
spares_expr-spares_expr-requires-in-Unary g t c =
    let whole = exp_size (expr_of c.args.of.now) in
    let m = c.args.of.now.mark in
    let at = c.in-Unary in
    λ κs o. (less _ t (falls_only (λ x. exp_size (expr_of x)) whole at.part.value c.deref-in-Unary.result.now t c.deref-in-Unary.ensures (ap (λ d. exp_size (expr_kind m d)) at.is) c.decreases), o)

pub spares_expr-spares_expr-requires-in-Bump : goal.spares_expr-spares_expr-requires-in-Bump
unfolding exp_size exps_size target_size expr_kind expr_row held_target
spares_expr-spares_expr-requires-in-Bump g t c =
    let whole = exp_size (expr_of c.args.of.now) in
    let m = c.args.of.now.mark in
    let at = c.in-Bump in
    λ κs o. (less _ t (falls_only (λ x. exp_size (expr_of x)) whole at.part.value c.deref-in-Bump.result.now t c.deref-in-Bump.ensures (ap (λ d. exp_size (expr_kind m d)) at.is) c.decreases), o)

pub spares_expr-spares_expr-requires-in-Binary : goal.spares_expr-spares_expr-requires-in-Binary
unfolding exp_size exps_size target_size expr_kind expr_row held_target
spares_expr-spares_expr-requires-in-Binary g t c =
    let whole = exp_size (expr_of c.args.of.now) in
    let m = c.args.of.now.mark in
    let at = c.in-Binary in
    λ κs o. (less _ t (falls_left (λ x. exp_size (expr_of x)) whole (exp_size (expr_of at.right.value)) at.left.value c.deref-in-Binary.result.now t c.deref-in-Binary.ensures (ap (λ d. exp_size (expr_kind m d)) at.is) c.decreases), o)

pub spares_expr-spares_expr-requires-in-Binary-2 : goal.spares_expr-spares_expr-requires-in-Binary-2
unfolding exp_size exps_size target_size expr_kind expr_row held_target
spares_expr-spares_expr-requires-in-Binary-2 g t c =
    let whole = exp_size (expr_of c.args.of.now) in
    let m = c.args.of.now.mark in
    let at = c.in-Binary in
    λ κs o. (less _ t (falls_right (λ x. exp_size (expr_of x)) whole (exp_size (expr_of at.left.value)) at.right.value c.deref-in-Binary-2.result.now t c.deref-in-Binary-2.ensures (ap (λ d. exp_size (expr_kind m d)) at.is) c.decreases), o)

pub spares_expr-spares_expr-requires-in-Assign : goal.spares_expr-spares_expr-requires-in-Assign
unfolding exp_size exps_size target_size expr_kind expr_row held_target
spares_expr-spares_expr-requires-in-Assign g t c =
    let whole = exp_size (expr_of c.args.of.now) in
    let m = c.args.of.now.mark in
    let at = c.in-Assign in
    λ κs o. (less _ t (falls_left (λ x. exp_size (expr_of x)) whole (exp_size (expr_of at.value.value)) at.to.value c.deref-in-Assign.result.now t c.deref-in-Assign.ensures (ap (λ d. exp_size (expr_kind m d)) at.is) c.decreases), o)

pub spares_expr-spares_expr-requires-in-Assign-2 : goal.spares_expr-spares_expr-requires-in-Assign-2
unfolding exp_size exps_size target_size expr_kind expr_row held_target
spares_expr-spares_expr-requires-in-Assign-2 g t c =
    let whole = exp_size (expr_of c.args.of.now) in
    let m = c.args.of.now.mark in
    let at = c.in-Assign in
    λ κs o. (less _ t (falls_right (λ x. exp_size (expr_of x)) whole (exp_size (expr_of at.to.value)) at.value.value c.deref-in-Assign-2.result.now t c.deref-in-Assign-2.ensures (ap (λ d. exp_size (expr_kind m d)) at.is) c.decreases), o)

pub spares_expr-spares_expr-requires-in-Compound : goal.spares_expr-spares_expr-requires-in-Compound
unfolding exp_size exps_size target_size expr_kind expr_row held_target
spares_expr-spares_expr-requires-in-Compound g t c =
    let whole = exp_size (expr_of c.args.of.now) in
    let m = c.args.of.now.mark in
    let at = c.in-Compound in
    λ κs o. (less _ t (falls_left (λ x. exp_size (expr_of x)) whole (exp_size (expr_of at.value.value)) at.to.value c.deref-in-Compound.result.now t c.deref-in-Compound.ensures (ap (λ d. exp_size (expr_kind m d)) at.is) c.decreases), o)

pub spares_expr-spares_expr-requires-in-Compound-2 : goal.spares_expr-spares_expr-requires-in-Compound-2
unfolding exp_size exps_size target_size expr_kind expr_row held_target
spares_expr-spares_expr-requires-in-Compound-2 g t c =
    let whole = exp_size (expr_of c.args.of.now) in
    let m = c.args.of.now.mark in
    let at = c.in-Compound in
    λ κs o. (less _ t (falls_right (λ x. exp_size (expr_of x)) whole (exp_size (expr_of at.to.value)) at.value.value c.deref-in-Compound-2.result.now t c.deref-in-Compound-2.ensures (ap (λ d. exp_size (expr_kind m d)) at.is) c.decreases), o)

pub spares_expr-spares_target-requires : goal.spares_expr-spares_target-requires
unfolding exp_size exps_size target_size expr_kind expr_row held_target
spares_expr-spares_target-requires g t c =
    let whole = exp_size (expr_of c.args.of.now) in
    let m = c.args.of.now.mark in
    let at = c.in-Call in
    λ κs o. (falls_left (λ x. target_size (target_of x)) whole (exps_size (exprs_of at.args.items)) at.on at.on t (λ i. at.on) (ap (λ d. exp_size (expr_kind m d)) at.is ∙ ap exp_size (expr_kind-Call_to _ m at.on at.name at.args)) c.decreases, o)

pub spares_expr-spares_row-requires : goal.spares_expr-spares_row-requires
unfolding exp_size exps_size target_size expr_kind expr_row held_target
spares_expr-spares_row-requires g t c =
    let whole = exp_size (expr_of c.args.of.now) in
    let m = c.args.of.now.mark in
    let at = c.in-Call in
    λ κs o. (falls_right (λ xs. exps_size (exprs_of xs)) whole (target_size (target_of at.on)) at.args.items c.deref-in-Call.result.now t c.deref-in-Call.ensures.value (ap (λ d. exp_size (expr_kind m d)) at.is ∙ ap exp_size (expr_kind-Call_to _ m at.on at.name at.args)) c.decreases, o)

pub spares_expr-spares_row-requires-in-SuperCall : goal.spares_expr-spares_row-requires-in-SuperCall
unfolding exp_size exps_size target_size expr_kind expr_row held_target
spares_expr-spares_row-requires-in-SuperCall g t c =
    let whole = exp_size (expr_of c.args.of.now) in
    let m = c.args.of.now.mark in
    let at = c.in-SuperCall in
    λ κs o. (falls_only (λ xs. exps_size (exprs_of xs)) whole at.args.items c.deref-in-SuperCall.result.now t c.deref-in-SuperCall.ensures.value (ap (λ d. exp_size (expr_kind m d)) at.is ∙ ap exp_size (expr_kind-SuperCall _ m at.name at.args)) c.decreases, o)

pub spares_expr-spares_row-requires-in-New : goal.spares_expr-spares_row-requires-in-New
unfolding exp_size exps_size target_size expr_kind expr_row held_target
spares_expr-spares_row-requires-in-New g t c =
    let whole = exp_size (expr_of c.args.of.now) in
    let m = c.args.of.now.mark in
    let at = c.in-New in
    λ κs o. (falls_only (λ xs. exps_size (exprs_of xs)) whole at.args.items c.deref-in-New.result.now t c.deref-in-New.ensures.value (ap (λ d. exp_size (expr_kind m d)) at.is ∙ ap exp_size (expr_kind-New _ m at.field-0 at.args)) c.decreases, o)

pub spares_target-spares_expr-requires : goal.spares_target-spares_expr-requires
unfolding exp_size exps_size target_size
spares_target-spares_expr-requires g t c =
    let same_size = ap (λ x. exp_size (expr_of x)) c.deref.ensures ∙ sym (ap (λ o. target_size (target_of o)) c.in-Some.is) in
    λ κs o. (falls_held _ (target_size (target_of c.args.of.now)) t same_size c.decreases, o)

pub spares_row-spares_expr-requires : goal.spares_row-spares_expr-requires
spares_row-spares_expr-requires g t c =
    λ κs o. (falls_item (λ x. exp_size (expr_of x)) (λ xs. exps_size (exprs_of xs)) exps_add c.args.args.now c.loop-arg.arg-index c.arg-item.result t c.loop-arg-test.true c.arg-item.is c.decreases, o)

pub spares_row-returns-then-not-spares_expr : goal.spares_row-returns-then-not-spares_expr
spares_row-returns-then-not-spares_expr g t c =
    let A = g.row.A.Denot in
    let names = names_in c.args.apart.now in
    all_fails (expr_test A names) (exprs_test A names) (no_exprs A names) (more_exprs A names) c.args.args.now c.loop-arg.arg-index c.arg-item.result c.spares_expr.result c.loop-arg-test.true c.arg-item.is c.spares_expr.ensures c.if-not-spares_expr.true c.loop-arg.invariant

pub spares_row-loop-arg-preserved : goal.spares_row-loop-arg-preserved
spares_row-loop-arg-preserved g t c =
    let A = g.row.A.Denot in
    let names = names_in c.args.apart.now in
    all_goes (expr_test A names) (exprs_test A names) (no_exprs A names) (more_exprs A names) c.args.args.now c.loop-arg.arg-index c.arg-item.result c.spares_expr.result c.loop-arg-test.true c.arg-item.is c.spares_expr.ensures c.if-not-spares_expr.false c.loop-arg.invariant

pub spares_row-returns : goal.spares_row-returns
spares_row-returns g t c =
    let A = g.row.A.Denot in
    let names = names_in c.args.apart.now in
    all_ends (expr_test A names) (exprs_test A names) (no_exprs A names) (more_exprs A names) c.args.args.now c.loop-arg.arg-index c.loop-arg-test.false c.loop-arg.invariant

pub spares_expr-returns-in-Call : goal.spares_expr-returns-in-Call
unfolding avoids_exp avoids_target avoids_row
spares_expr-returns-in-Call g t c =
    let at = c.in-Call in
    let m = c.args.of.now.mark in
    let names = names_in c.args.apart.now in
    let view = ap (λ d. avoids_exp names (expr_kind m d)) at.is ∙ ap (avoids_exp names) (expr_kind-Call_to _ m at.on at.name at.args) in
    (λ i. c.spares_target.ensures i && c.spares_word-in-Call.ensures i && (c.spares_row.ensures ∙ ap (λ es. avoids_row names (exprs_of es)) c.deref-in-Call.ensures.value) i)
    ∙ sym view

pub spares_expr-returns-in-SuperCall : goal.spares_expr-returns-in-SuperCall
unfolding avoids_exp avoids_target avoids_row
spares_expr-returns-in-SuperCall g t c =
    let at = c.in-SuperCall in
    let m = c.args.of.now.mark in
    let names = names_in c.args.apart.now in
    let view = ap (λ d. avoids_exp names (expr_kind m d)) at.is ∙ ap (avoids_exp names) (expr_kind-SuperCall _ m at.name at.args) in
    (λ i. c.spares_word-in-SuperCall.ensures i && (c.spares_row-in-SuperCall.ensures ∙ ap (λ es. avoids_row names (exprs_of es)) c.deref-in-SuperCall.ensures.value) i)
    ∙ sym view

pub spares_expr-returns-in-New : goal.spares_expr-returns-in-New
unfolding avoids_exp avoids_target avoids_row
spares_expr-returns-in-New g t c =
    let at = c.in-New in
    let m = c.args.of.now.mark in
    let names = names_in c.args.apart.now in
    let view = ap (λ d. avoids_exp names (expr_kind m d)) at.is ∙ ap (avoids_exp names) (expr_kind-New _ m at.field-0 at.args) in
    (c.spares_row-in-New.ensures ∙ ap (λ es. avoids_row names (exprs_of es)) c.deref-in-New.ensures.value)
    ∙ sym view
