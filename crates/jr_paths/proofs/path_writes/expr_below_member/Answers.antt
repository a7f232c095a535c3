use Rattle.std.proofs.Common.{◌≤◌, length, get_or, refl, ap, sym, option_map, ◌∙◌, arith}
use Rattle.std.specs.Option.{ghost_name_of}
use Rattle.jr_ast.specs.View as view
use Rattle.jr_ast.specs.Nodes as pure
use Rattle.jr_ast.specs.declared.exprs.ExprKind.TheViews as views
use Rattle.jr_paths_nodes.proofs.Lending.{on_none, on_that, on_some_also, on_some_with}
use Rattle.jr_paths_nodes.proofs.Halves.{one_step, one_exp, one_write, exp_child, first_step, rest_within, first_then, first_same, member_inject, empty_exp_member}
use Rattle.jr_paths.proofs.Firsts.{exp_first_of_member, no_exp_first_of_member}
use Rattle.jr_paths.proofs.path_writes.expr_below_member.Goals as goal

pub returns-in-0 : goal.returns-in-0
returns-in-0 g c =
    ((refl, λ w. tt, λ m. refl), record { writes_back = tt; value = λ m no_member no_stmt. empty_exp_member (view.member_kind m c.args.kind.now) c.args.steps.now c.in-0.is })

pub returns-in-1 : goal.returns-in-1
returns-in-1 g c =
    let N = c.expr_of_member in
    let steps = c.args.steps.now in
    let whole = c.args.kind.now in
    let one = one_step steps (omega (c.in-1.is, arith)) (omega (c.in-1.is, arith)) in (
      (
        refl,
        λ w. on_some_with N.result (N.follows.holds w)
            (λ x is e m.
            ap pure.member (e m) ∙ one_write (pure.member (view.member_kind m whole)) (pure.exp (view.expr_of x.now)) (pure.exp (view.expr_of w)) (get_or steps 0 0) steps one
            (exp_child (pure.member (view.member_kind m whole)) (get_or steps 0 0) (view.expr_of x.now) (sym (ap (option_map (λ y. view.expr_of y.now)) is) ∙ N.ensures.value m))),
        N.follows.holds-at-none,
      ),
      record { writes_back = tt; value = λ m no_member no_stmt. N.ensures.value m ∙ one_exp (pure.member (view.member_kind m whole)) (get_or steps 0 0) steps one },
    )

pub returns-in_err-expr-in_default : goal.returns-in_err-expr-in_default
returns-in_err-expr-in_default g c =
    let N = c.expr_of_member-in_default in
    let steps = c.args.steps.now in
    let some : 1 ≤ length steps = grind (c.in_default, arith) in (
      (
        ap ghost_name_of (sym c.from_residual.ensures),
        λ w. on_none _ c.from_residual.result c.from_residual.ensures,
        N.follows.holds-at-none,
      ),
      record {
        writes_back = tt;
        value = λ m no_member no_stmt.
            ap (option_map (λ x. view.expr_of x.now)) c.from_residual.ensures
            ∙ no_exp_first_of_member (view.member_kind m c.args.kind.now) (get_or steps 0 0) _ steps (first_step steps some) no_member no_stmt
            (ap (option_map (λ x. view.expr_of x.now)) (sym c.in_err-expr-in_default.was) ∙ N.ensures.value m);
      },
    )

pub returns-in_ok-expr-in_default : goal.returns-in_ok-expr-in_default
returns-in_ok-expr-in_default g c =
    let N = c.expr_of_member-in_default in
    let L = c.below in
    let steps = c.args.steps.now in
    let whole = c.args.kind.now in
    let upper = c.in_ok-expr-in_default.expr.now in
    let two : 2 ≤ length steps = grind (c.in_default, arith) in
    let some : 1 ≤ length steps = omega (two, arith) in
    let within = rest_within 18446744073709551616 steps two (omega (c.requires, arith)) in (
      (
        refl,
        λ w. on_some_also L.result (L.follows.holds w)
            (λ second m.
            first_then (pure.member (view.member_kind m whole)) (pure.exp (view.expr_of upper)) _ _ (pure.exp (view.expr_of w)) (get_or steps 0 0) _ steps (first_step steps some)
            (exp_child (pure.member (view.member_kind m whole)) (get_or steps 0 0) (view.expr_of upper)
            (ap (option_map (λ x. view.expr_of x.now)) (sym c.in_ok-expr-in_default.was) ∙ N.ensures.value m))
            (ap pure.member (on_that N.result c.in_ok-expr-in_default.was (N.follows.holds (views.roll-Expr g.row.A.Denot (record { mark = upper.mark; kind = L.follows.lender w }))) m))
            (second within upper.mark)),
        λ m.
            member_inject (first_same (pure.member (view.member_kind m whole)) (pure.exp (view.expr_of upper)) _ _ (get_or steps 0 0)
            (exp_child (pure.member (view.member_kind m whole)) (get_or steps 0 0) (view.expr_of upper)
            (ap (option_map (λ x. view.expr_of x.now)) (sym c.in_ok-expr-in_default.was) ∙ N.ensures.value m))
            (ap pure.member (on_that N.result c.in_ok-expr-in_default.was (N.follows.holds (views.roll-Expr g.row.A.Denot (record { mark = upper.mark; kind = L.follows.lender-at-none }))) m))
            (ap pure.exp (L.follows.holds-at-none within upper.mark))),
      ),
      record {
        writes_back = tt;
        value = λ m no_member no_stmt. L.ensures.value within upper.mark
            ∙ exp_first_of_member (view.member_kind m whole) (view.expr_of upper) (get_or steps 0 0) _ steps (first_step steps some) no_member no_stmt
            (ap (option_map (λ x. view.expr_of x.now)) (sym c.in_ok-expr-in_default.was) ∙ N.ensures.value m);
      },
    )
