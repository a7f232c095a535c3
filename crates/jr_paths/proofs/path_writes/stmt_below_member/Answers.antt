use Rattle.std.proofs.Common.{◌≤◌, length, get_or, refl, ap, sym, option_map, ◌∙◌, arith}
use Rattle.std.specs.Option.{ghost_name_of}
use Rattle.jr_ast.specs.View as view
use Rattle.jr_ast.specs.Nodes as pure
use Rattle.jr_ast.specs.declared.stmts.StmtKind.TheViews as views
use Rattle.jr_paths_nodes.proofs.Lending.{on_none, on_that, on_some_also, on_some_with}
use Rattle.jr_paths_nodes.proofs.Halves.{one_step, one_stmt, one_write, stmt_child, first_step, rest_within, first_then, first_same, member_inject, empty_stmt_member}
use Rattle.jr_paths.proofs.Firsts.{stmt_first_of_member, no_stmt_first_of_member}
use Rattle.jr_paths.proofs.path_writes.stmt_below_member.Goals as goal

pub returns-in-0 : goal.returns-in-0
returns-in-0 g c =
    ((refl, λ w. tt, λ m. refl), record { writes_back = tt; value = λ m no_member. empty_stmt_member (view.member_kind m c.args.kind.now) c.args.steps.now c.in-0.is })

pub returns-in-1 : goal.returns-in-1
returns-in-1 g c =
    let N = c.stmt_of_member in
    let steps = c.args.steps.now in
    let whole = c.args.kind.now in
    let one = one_step steps (omega (c.in-1.is, arith)) (omega (c.in-1.is, arith)) in (
      (
        refl,
        λ w. on_some_with N.result (N.follows.holds w)
            (λ x is e m.
            ap pure.member (e m) ∙ one_write (pure.member (view.member_kind m whole)) (pure.stmt (view.stmt_of x.now)) (pure.stmt (view.stmt_of w)) (get_or steps 0 0) steps one
            (stmt_child (pure.member (view.member_kind m whole)) (get_or steps 0 0) (view.stmt_of x.now) (sym (ap (option_map (λ y. view.stmt_of y.now)) is) ∙ N.ensures.value m))),
        N.follows.holds-at-none,
      ),
      record { writes_back = tt; value = λ m no_member. N.ensures.value m ∙ one_stmt (pure.member (view.member_kind m whole)) (get_or steps 0 0) steps one },
    )

pub returns-in_err-stmt-in_default : goal.returns-in_err-stmt-in_default
returns-in_err-stmt-in_default g c =
    let N = c.stmt_of_member-in_default in
    let steps = c.args.steps.now in
    let some : 1 ≤ length steps = grind (c.in_default, arith) in (
      (
        ap ghost_name_of (sym c.from_residual.ensures),
        λ w. on_none _ c.from_residual.result c.from_residual.ensures,
        N.follows.holds-at-none,
      ),
      record {
        writes_back = tt;
        value = λ m no_member.
            ap (option_map (λ x. view.stmt_of x.now)) c.from_residual.ensures
            ∙ no_stmt_first_of_member (view.member_kind m c.args.kind.now) (get_or steps 0 0) _ steps (first_step steps some) no_member
            (ap (option_map (λ x. view.stmt_of x.now)) (sym c.in_err-stmt-in_default.was) ∙ N.ensures.value m);
      },
    )

pub returns-in_ok-stmt-in_default : goal.returns-in_ok-stmt-in_default
returns-in_ok-stmt-in_default g c =
    let N = c.stmt_of_member-in_default in
    let L = c.below in
    let steps = c.args.steps.now in
    let whole = c.args.kind.now in
    let upper = c.in_ok-stmt-in_default.stmt.now in
    let two : 2 ≤ length steps = grind (c.in_default, arith) in
    let some : 1 ≤ length steps = omega (two, arith) in
    let within = rest_within 18446744073709551616 steps two (omega (c.requires, arith)) in (
      (
        refl,
        λ w. on_some_also L.result (L.follows.holds w)
            (λ second m.
            first_then (pure.member (view.member_kind m whole)) (pure.stmt (view.stmt_of upper)) _ _ (pure.stmt (view.stmt_of w)) (get_or steps 0 0) _ steps (first_step steps some)
            (stmt_child (pure.member (view.member_kind m whole)) (get_or steps 0 0) (view.stmt_of upper)
            (ap (option_map (λ x. view.stmt_of x.now)) (sym c.in_ok-stmt-in_default.was) ∙ N.ensures.value m))
            (ap pure.member (on_that N.result c.in_ok-stmt-in_default.was (N.follows.holds (views.roll-Stmt g.row.A.Denot (record { mark = upper.mark; kind = L.follows.lender w }))) m))
            (second within upper.mark)),
        λ m.
            member_inject (first_same (pure.member (view.member_kind m whole)) (pure.stmt (view.stmt_of upper)) _ _ (get_or steps 0 0)
            (stmt_child (pure.member (view.member_kind m whole)) (get_or steps 0 0) (view.stmt_of upper)
            (ap (option_map (λ x. view.stmt_of x.now)) (sym c.in_ok-stmt-in_default.was) ∙ N.ensures.value m))
            (ap pure.member (on_that N.result c.in_ok-stmt-in_default.was (N.follows.holds (views.roll-Stmt g.row.A.Denot (record { mark = upper.mark; kind = L.follows.lender-at-none }))) m))
            (ap pure.stmt (L.follows.holds-at-none within upper.mark))),
      ),
      record {
        writes_back = tt;
        value = λ m no_member. L.ensures.value within upper.mark
            ∙ stmt_first_of_member (view.member_kind m whole) (view.stmt_of upper) (get_or steps 0 0) _ steps (first_step steps some) no_member
            (ap (option_map (λ x. view.stmt_of x.now)) (sym c.in_ok-stmt-in_default.was) ∙ N.ensures.value m);
      },
    )
