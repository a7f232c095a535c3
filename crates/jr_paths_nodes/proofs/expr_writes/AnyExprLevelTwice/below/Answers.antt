use Rattle.std.proofs.Common.{◌≡◌, ◌/◌, ◌≤◌, length, refl, ap, sym, option_map, ◌∙◌, arith}
use Rattle.std.specs.Option.{ghost_name_of}
use Rattle.jr_ast.specs.View as view
use Rattle.jr_ast.specs.Nodes as pure
use Rattle.jr_ast.specs.declared.exprs.ExprKind.TheViews as views
use Rattle.jr_paths_nodes.proofs.Lending.{on_none, on_that, on_some_also}
use Rattle.jr_paths_nodes.proofs.Halves.{short_within, upper_half, lower_half, joined, node_of_exp, exp_inject, write_join, same_join, exp_joined, exp_missing}
use Rattle.jr_paths_nodes.proofs.expr_writes.AnyExprLevelTwice.below.Goals as goal

pub returns-then-half-eq0 : goal.returns-then-half-eq0
returns-then-half-eq0 g c =
    let N = c.below in
    let steps = c.args.steps.now in
    let reach = g.A.ExprLevel.reach in
    let short : length steps / 2 ≡ 0 = c.if-half-eq0.true in (
      (
        refl,
        λ w. on_some_also N.result (N.follows.holds w) (λ e within. e (short_within reach steps short within)),
        λ within. N.follows.holds-at-none (short_within reach steps short within),
      ),
      record { writes_back = tt; value = λ within. N.ensures.value (short_within reach steps short within) },
    )

pub returns-in_err-upper : goal.returns-in_err-upper
returns-in_err-upper g c =
    let steps = c.args.steps.now in
    let half = length steps / 2 in
    let reach = g.A.ExprLevel.reach in
    let some : 1 ≤ half = omega (c.if-half-eq0.false, arith) in
    let U = c.below-2 in
    let e = view.expr_kind in (
      (
        ap ghost_name_of (sym c.from_residual.ensures),
        λ w. on_none _ c.from_residual.result c.from_residual.ensures,
        λ within. U.follows.holds-at-none (upper_half reach steps some within),
      ),
      record {
        writes_back = tt;
        value = λ within m.
            ap (option_map (λ x. view.expr_of x.now)) c.from_residual.ensures
            ∙ exp_missing (e m c.args.kind.now) _ _ steps (joined steps half)
            (ap (option_map (λ x. view.expr_of x.now)) (sym c.in_err-upper.was) ∙ U.ensures.value (upper_half reach steps some within) m);
      },
    )

pub returns : goal.returns
returns g c =
    let steps = c.args.steps.now in
    let half = length steps / 2 in
    let reach = g.A.ExprLevel.reach in
    let some : 1 ≤ half = omega (c.if-half-eq0.false, arith) in
    let U = c.below-2 in
    let L = c.below-3 in
    let upper = c.in_ok-upper.upper.now in
    let whole = c.args.kind.now in
    let e = view.expr_kind in (
      (
        refl,
        λ w. on_some_also L.result (L.follows.holds w)
            (λ second within m.
            write_join (pure.exp (e m whole)) (pure.exp (view.expr_of upper)) _ _ (pure.exp (view.expr_of w)) _ _ steps (joined steps half)
            (node_of_exp (pure.exp (e m whole)) _ (view.expr_of upper)
            (ap (option_map (λ x. view.expr_of x.now)) (sym c.in_ok-upper.was) ∙ U.ensures.value (upper_half reach steps some within) m))
            (on_that U.result c.in_ok-upper.was (U.follows.holds (views.roll-Expr g.row.A.Denot (record { mark = upper.mark; kind = L.follows.lender w }))) (upper_half reach steps some within) m)
            (second (lower_half reach steps some within) upper.mark)),
        λ within m.
            exp_inject (same_join (pure.exp (e m whole)) (pure.exp (view.expr_of upper)) _ _ _
            (node_of_exp (pure.exp (e m whole)) _ (view.expr_of upper)
            (ap (option_map (λ x. view.expr_of x.now)) (sym c.in_ok-upper.was) ∙ U.ensures.value (upper_half reach steps some within) m))
            (on_that U.result c.in_ok-upper.was (U.follows.holds (views.roll-Expr g.row.A.Denot (record { mark = upper.mark; kind = L.follows.lender-at-none }))) (upper_half reach steps some within) m)
            (ap pure.exp (L.follows.holds-at-none (lower_half reach steps some within) upper.mark))),
      ),
      record {
        writes_back = tt;
        value = λ within m. L.ensures.value (lower_half reach steps some within) upper.mark
            ∙ exp_joined (e m whole) (view.expr_of upper) _ _ steps (joined steps half)
            (ap (option_map (λ x. view.expr_of x.now)) (sym c.in_ok-upper.was) ∙ U.ensures.value (upper_half reach steps some within) m);
      },
    )
