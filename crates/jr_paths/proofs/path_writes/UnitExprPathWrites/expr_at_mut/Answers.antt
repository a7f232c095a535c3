use Rattle.std.proofs.Common.{◌≡◌, ◌-◌, ◌<◌, length, take, drop, refl, Some, None, ap, sym, subst, option_map, ◌∙◌, arith}
use Rattle.std.specs.Option.{ghost_name_of, IsSome}
use Rattle.jr_ast.specs.View as view
use Rattle.jr_ast.specs.Nodes as pure
use Rattle.jr_paths.specs.PathKinds.{NoMember, NoStmt}
use Rattle.jr_ast.specs.declared.members.MemberKind.TheViews as member_views
use Rattle.jr_ast.specs.declared.stmts.StmtKind.TheViews as stmt_views
use Rattle.jr_paths_nodes.proofs.Lending.{on_none, on_that, on_some_also}
use Rattle.jr_paths_nodes.proofs.Halves.{joined, node_of_member, node_of_stmt, write_join, same_join}
use Rattle.jr_paths.proofs.PathKinds.{unit_no_exp}
use Rattle.jr_paths.proofs.Turning.{unit_inject, none_at_all, at_below, none_below, between}
use Rattle.jr_paths.proofs.path_writes.UnitExprPathWrites.expr_at_mut.Goals as goal

pub returns-in_err-member : goal.returns-in_err-member
returns-in_err-member g c =
    let M = c.member_below_unit in
    let steps = c.as_slice-steps.result.now in
    let whole = c.args.path.now.steps.items in
    let same : steps ≡ whole = c.as_slice-steps.ensures.value in
    let u = view.unit_of c.args.self.now in
    let missing = ap (option_map (λ x. view.member_of x.now)) (sym c.in_err-member.was) ∙ M.ensures.value in (
      (
        ap ghost_name_of (sym c.from_residual.ensures),
        λ w. on_none _ c.from_residual.result c.from_residual.ensures,
        M.follows.holds-at-none,
      ),
      record {
        writes_back = tt;
        value =
            ap (option_map (λ x. view.expr_of x.now)) c.from_residual.ensures
            ∙ sym (unit_no_exp u steps (none_at_all (pure.member_at (pure.unit u)) steps c.turns_of-turns.result.members c.turns_of-turns.ensures.members missing)) ∙ ap (pure.exp_at (pure.unit u)) same;
      },
    )

pub returns-then-turns : goal.returns-then-turns
returns-then-turns g c =
    let M = c.member_below_unit in
    let L = c.expr_below_member in
    let steps = c.as_slice-steps.result.now in
    let whole = c.args.path.now.steps.items in
    let same : steps ≡ whole = c.as_slice-steps.ensures.value in
    let u = pure.unit (view.unit_of c.args.self.now) in
    let m = c.turns_of-turns.result.members in
    let last = c.turns_of-turns.ensures.members in
    let last_stmt = c.turns_of-turns.ensures.stmts in
    let found = c.in_ok-member.member.now in
    let member = pure.member (view.member_of found) in
    let q = take (length steps - m) (drop m steps) in
    let at : pure.node_at u (take m steps) ≡ Some member =
    node_of_member u (take m steps) (view.member_of found) (ap (option_map (λ x. view.member_of x.now)) (sym c.in_ok-member.was) ∙ M.ensures.value) in
    let no_member : NoMember member q = none_below pure.as_member u member steps m at (length steps - m) (omega (last.0, arith)) last.2 in
    let no_stmt : NoStmt member q = none_below pure.as_stmt u member steps m at (length steps - m) (omega (last.0, arith)) (λ k low high. last_stmt.2 k (omega (low, c.if-turns.true, arith)) high) in (
      (
        refl,
        λ w. on_some_also L.result (L.follows.holds w)
            (λ second.
            write_join u member _ _ (pure.exp (view.expr_of w)) (take m steps) q whole (joined steps m ∙ same) at
            (on_that M.result c.in_ok-member.was (M.follows.holds (member_views.roll-Member g.row.A.Denot (record { mark = found.mark; kind = L.follows.lender w }))))
            (second found.mark)),
        unit_inject (same_join u member _ _ (take m steps) at
            (on_that M.result c.in_ok-member.was (M.follows.holds (member_views.roll-Member g.row.A.Denot (record { mark = found.mark; kind = L.follows.lender-at-none }))))
            (ap pure.member (L.follows.holds-at-none found.mark))),
      ),
      record {
        writes_back = tt;
        value = L.ensures.value found.mark no_member no_stmt ∙ at_below pure.as_exp u member steps m at q whole (joined steps m ∙ same);
      },
    )

pub returns-in_err-stmt : goal.returns-in_err-stmt
returns-in_err-stmt g c =
    let M = c.member_below_unit in
    let L = c.stmt_below_member in
    let steps = c.as_slice-steps.result.now in
    let whole = c.args.path.now.steps.items in
    let same : steps ≡ whole = c.as_slice-steps.ensures.value in
    let u = pure.unit (view.unit_of c.args.self.now) in
    let m = c.turns_of-turns.result.members in
    let s = c.turns_of-turns.result.stmts in
    let last = c.turns_of-turns.ensures.members in
    let last_stmt = c.turns_of-turns.ensures.stmts in
    let found = c.in_ok-member.member.now in
    let member = pure.member (view.member_of found) in
    let r = take (s - m) (drop m steps) in
    let apart : m < s = grind (c.if-turns.false, arith) in
    let at : pure.node_at u (take m steps) ≡ Some member =
    node_of_member u (take m steps) (view.member_of found) (ap (option_map (λ x. view.member_of x.now)) (sym c.in_ok-member.was) ∙ M.ensures.value) in
    let no_member : NoMember member r = none_below pure.as_member u member steps m at (s - m) (omega (last_stmt.0, apart, arith)) last.2 in
    let missing : None ≡ pure.stmt_at u (take s steps) =
    ap (option_map (λ x. view.stmt_of x.now)) (sym c.in_err-stmt.was) ∙ L.ensures.value found.mark no_member
    ∙ at_below pure.as_stmt u member steps m at r (take s steps) (between m s steps (omega (apart, arith))) in
    let some : IsSome (pure.stmt_at u (take s steps)) = last_stmt.1 (omega (apart, arith)) in
    absurd (cc (subst IsSome (sym missing) some))

pub returns : goal.returns
returns g c =
    let M = c.member_below_unit in
    let L = c.stmt_below_member in
    let E = c.expr_below_stmt in
    let steps = c.as_slice-steps.result.now in
    let whole = c.args.path.now.steps.items in
    let same : steps ≡ whole = c.as_slice-steps.ensures.value in
    let u = pure.unit (view.unit_of c.args.self.now) in
    let m = c.turns_of-turns.result.members in
    let s = c.turns_of-turns.result.stmts in
    let last = c.turns_of-turns.ensures.members in
    let last_stmt = c.turns_of-turns.ensures.stmts in
    let found = c.in_ok-member.member.now in
    let member = pure.member (view.member_of found) in
    let inner = c.in_ok-stmt.stmt.now in
    let stmt = pure.stmt (view.stmt_of inner) in
    let r = take (s - m) (drop m steps) in
    let q = take (length steps - s) (drop s steps) in
    let apart : m < s = grind (c.if-turns.false, arith) in
    let at : pure.node_at u (take m steps) ≡ Some member =
    node_of_member u (take m steps) (view.member_of found) (ap (option_map (λ x. view.member_of x.now)) (sym c.in_ok-member.was) ∙ M.ensures.value) in
    let no_member : NoMember member r = none_below pure.as_member u member steps m at (s - m) (omega (last_stmt.0, apart, arith)) last.2 in
    let in_member : Some (view.stmt_of inner) ≡ pure.stmt_at member r =
    ap (option_map (λ x. view.stmt_of x.now)) (sym c.in_ok-stmt.was) ∙ L.ensures.value found.mark no_member in
    let at_stmt : pure.node_at u (take s steps) ≡ Some stmt =
    node_of_stmt u (take s steps) (view.stmt_of inner) (in_member ∙ at_below pure.as_stmt u member steps m at r (take s steps) (between m s steps (omega (apart, arith)))) in
    let no_stmt : NoStmt stmt q = none_below pure.as_stmt u stmt steps s at_stmt (length steps - s) (omega (last_stmt.0, arith)) last_stmt.2 in (
      (
        refl,
        λ w. on_some_also E.result (E.follows.holds w)
            (λ third.
            write_join u stmt _ _ (pure.exp (view.expr_of w)) (take s steps) q whole (joined steps s ∙ same) at_stmt
            (write_join u member _ _ _ (take m steps) r (take s steps) (between m s steps (omega (apart, arith))) at
            (on_that M.result c.in_ok-member.was (M.follows.holds (member_views.roll-Member g.row.A.Denot (record { mark = found.mark; kind = L.follows.lender (stmt_views.roll-Stmt g.row.A.Denot (record { mark = inner.mark; kind = E.follows.lender w })) }))))
            (on_that L.result c.in_ok-stmt.was (L.follows.holds (stmt_views.roll-Stmt g.row.A.Denot (record { mark = inner.mark; kind = E.follows.lender w }))) found.mark))
            (third inner.mark)),
        unit_inject (same_join u member _ _ (take m steps) at
            (on_that M.result c.in_ok-member.was (M.follows.holds (member_views.roll-Member g.row.A.Denot (record { mark = found.mark; kind = L.follows.lender (stmt_views.roll-Stmt g.row.A.Denot (record { mark = inner.mark; kind = E.follows.lender-at-none })) }))))
            (same_join member stmt _ _ r (node_of_stmt member r (view.stmt_of inner) in_member)
            (on_that L.result c.in_ok-stmt.was (L.follows.holds (stmt_views.roll-Stmt g.row.A.Denot (record { mark = inner.mark; kind = E.follows.lender-at-none }))) found.mark)
            (ap pure.stmt (E.follows.holds-at-none inner.mark)))),
      ),
      record {
        writes_back = tt;
        value = E.ensures.value inner.mark no_stmt ∙ at_below pure.as_exp u stmt steps s at_stmt q whole (joined steps s ∙ same);
      },
    )
