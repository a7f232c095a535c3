use Rattle.std.proofs.Common.{◌≡◌, ◌-◌, length, take, drop, refl, Some, ap, sym, option_map, ◌∙◌, arith}
use Rattle.std.specs.Option.{ghost_name_of}
use Rattle.jr_ast.specs.View as view
use Rattle.jr_ast.specs.Nodes as pure
use Rattle.jr_paths.specs.PathKinds.{NoMember}
use Rattle.jr_ast.specs.declared.members.MemberKind.TheViews as member_views
use Rattle.jr_paths_nodes.proofs.Lending.{on_none, on_that, on_some_also}
use Rattle.jr_paths_nodes.proofs.Halves.{joined, node_of_member, write_join, same_join}
use Rattle.jr_paths.proofs.PathKinds.{unit_no_stmt}
use Rattle.jr_paths.proofs.Turning.{unit_inject, none_at_all, at_below, none_below}
use Rattle.jr_paths.proofs.path_writes.UnitStmtPathWrites.stmt_at_mut.Goals as goal

pub returns-in_err-member : goal.returns-in_err-member
returns-in_err-member g c =
    let M = c.member_below_unit in
    let steps = c.as_slice-steps.result.now in
    let whole = c.args.path.now.steps.items in
    let same : steps ≡ whole = c.as_slice-steps.ensures.value in
    let u = view.unit_of c.args.self.now in
    let missing = ap (option_map (λ x. view.member_of x.now)) (sym c.in_err-member.was) ∙ M.ensures.value in (
      (
        ap ghost_name_of (sym c.from_residual.ensures),
        λ w. on_none _ c.from_residual.result c.from_residual.ensures,
        M.follows.holds-at-none,
      ),
      record {
        writes_back = tt;
        value =
            ap (option_map (λ x. view.stmt_of x.now)) c.from_residual.ensures
            ∙ sym (unit_no_stmt u steps (none_at_all (pure.member_at (pure.unit u)) steps c.turns_of-turns.result.members c.turns_of-turns.ensures.members missing)) ∙ ap (pure.stmt_at (pure.unit u)) same;
      },
    )

pub returns : goal.returns
returns g c =
    let M = c.member_below_unit in
    let L = c.stmt_below_member in
    let steps = c.as_slice-steps.result.now in
    let whole = c.args.path.now.steps.items in
    let same : steps ≡ whole = c.as_slice-steps.ensures.value in
    let u = pure.unit (view.unit_of c.args.self.now) in
    let m = c.turns_of-turns.result.members in
    let last = c.turns_of-turns.ensures.members in
    let found = c.in_ok-member.member.now in
    let member = pure.member (view.member_of found) in
    let q = take (length steps - m) (drop m steps) in
    let at : pure.node_at u (take m steps) ≡ Some member =
    node_of_member u (take m steps) (view.member_of found) (ap (option_map (λ x. view.member_of x.now)) (sym c.in_ok-member.was) ∙ M.ensures.value) in
    let no_member : NoMember member q = none_below pure.as_member u member steps m at (length steps - m) (omega (last.0, arith)) last.2 in (
      (
        refl,
        λ w. on_some_also L.result (L.follows.holds w)
            (λ second.
            write_join u member _ _ (pure.stmt (view.stmt_of w)) (take m steps) q whole (joined steps m ∙ same) at
            (on_that M.result c.in_ok-member.was (M.follows.holds (member_views.roll-Member g.row.A.Denot (record { mark = found.mark; kind = L.follows.lender w }))))
            (second found.mark)),
        unit_inject (same_join u member _ _ (take m steps) at
            (on_that M.result c.in_ok-member.was (M.follows.holds (member_views.roll-Member g.row.A.Denot (record { mark = found.mark; kind = L.follows.lender-at-none }))))
            (ap pure.member (L.follows.holds-at-none found.mark))),
      ),
      record {
        writes_back = tt;
        value = L.ensures.value found.mark no_member ∙ at_below pure.as_stmt u member steps m at q whole (joined steps m ∙ same);
      },
    )
