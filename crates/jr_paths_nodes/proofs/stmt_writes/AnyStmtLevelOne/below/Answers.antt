use Rattle.std.proofs.Common.{refl, ap, sym, option_map, ◌∙◌, get_or, arith}
use Rattle.jr_ast.specs.View as view
use Rattle.jr_ast.specs.Nodes as pure
use Rattle.jr_paths_nodes.proofs.Lending.{on_some_with}
use Rattle.jr_paths_nodes.proofs.Halves.{one_step, one_stmt, one_write, stmt_child}
use Rattle.jr_paths_nodes.proofs.stmt_writes.AnyStmtLevelOne.below.Goals as goal

pub returns-then-steps-ne1 : goal.returns-then-steps-ne1
returns-then-steps-ne1 g c =
    ((refl, λ w. tt, λ within m. refl), record { writes_back = tt; value = λ within m. absurd (c.if-steps-ne1.true (omega (within, arith))) })

pub returns : goal.returns
returns g c =
    let N = c.stmt_of_stmt in
    let steps = c.args.steps.now in
    let one = one_step steps (omega (c.if-steps-ne1.false, arith)) (omega (c.if-steps-ne1.false, arith)) in (
      (
        refl,
        λ w. on_some_with N.result (N.follows.holds w)
            (λ x is e within m.
            let found = N.ensures.value m in
            ap pure.stmt (e m) ∙ one_write (pure.stmt (view.stmt_kind m c.args.kind.now)) (pure.stmt (view.stmt_of x.now)) (pure.stmt (view.stmt_of w)) (get_or steps 0 0) steps one
            (stmt_child (pure.stmt (view.stmt_kind m c.args.kind.now)) (get_or steps 0 0) (view.stmt_of x.now) (sym (ap (option_map (λ y. view.stmt_of y.now)) is) ∙ found))),
        λ within. N.follows.holds-at-none,
      ),
      record {
        writes_back = tt;
        value = λ within m. N.ensures.value m ∙ one_stmt (pure.stmt (view.stmt_kind m c.args.kind.now)) (get_or steps 0 0) steps one;
      },
    )
