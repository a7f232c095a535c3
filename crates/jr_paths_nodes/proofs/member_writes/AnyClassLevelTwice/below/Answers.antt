use Rattle.std.proofs.Common.{◌≡◌, ◌≤◌, ◌*◌, ◌-◌, length, take, get_or, refl, Some, ap, sym, option_map, option_and_then, ◌∙◌, arith}
use Rattle.std.specs.Option.{ghost_name_of}
use Rattle.jr_ast.specs.View as view
use Rattle.jr_ast.specs.Nodes as pure
use Rattle.jr_ast.specs.declared.members.MemberKind.TheViews as views
use Rattle.jr_paths_nodes.proofs.Lending.{on_none, on_that, on_some_also}
use Rattle.jr_paths_nodes.proofs.ClassHalves as halves
use Rattle.jr_paths_nodes.proofs.member_writes.AnyClassLevelTwice.below.Goals as goal

pub returns-then-steps-eq0 : goal.returns-then-steps-eq0
returns-then-steps-eq0 g c =
    ((refl, λ w. tt, λ within. refl), record { writes_back = tt; value = λ within. halves.none_at_even (view.class_of c.args.class.now) c.args.steps.now c.if-steps-eq0.true })

pub returns-then-upper-eq0 : goal.returns-then-upper-eq0
returns-then-upper-eq0 g c =
    let N = c.below in
    let steps = c.args.steps.now in
    let reach = g.A.ClassLevel.reach in
    let short : length steps ≤ 2 * (2 * reach) → length steps ≤ 2 * reach = halves.only_within steps c.if-steps-eq0.false reach c.if-upper-eq0.true in (
      (
        refl,
        λ w. on_some_also N.result (N.follows.holds w) (λ e within. e (short within)),
        λ within. N.follows.holds-at-none (short within),
      ),
      record { writes_back = tt; value = λ within. N.ensures.value (short within) },
    )

pub returns-in_err-member : goal.returns-in_err-member
returns-in_err-member g c =
    let steps = c.args.steps.now in
    let upper = halves.upper_of steps in
    let reach = g.A.ClassLevel.reach in
    let odd = c.if-steps-eq0.false in
    let some : 1 ≤ upper = omega (c.if-upper-eq0.false, arith) in
    let U = c.below-2 in
    let whole = view.class_of c.args.class.now in (
      (
        ap ghost_name_of (sym c.from_residual.ensures),
        λ w. on_none _ c.from_residual.result c.from_residual.ensures,
        λ within. U.follows.holds-at-none (halves.upper_within steps odd some reach within),
      ),
      record {
        writes_back = tt;
        value = λ within.
            ap (option_map (λ x. view.member_of x.now)) c.from_residual.ensures
            ∙ halves.upper_missing whole _ (get_or steps (2 * upper - 1) 0) _ steps (upper - 1) (halves.halves_join steps odd some) (halves.upper_odd steps odd some)
            (ap (option_map (λ x. view.member_of x.now)) (sym c.in_err-member.was) ∙ U.ensures.value (halves.upper_within steps odd some reach within));
      },
    )

pub returns-in_err-inner : goal.returns-in_err-inner
returns-in_err-inner g c =
    let steps = c.args.steps.now in
    let upper = halves.upper_of steps in
    let reach = g.A.ClassLevel.reach in
    let odd = c.if-steps-eq0.false in
    let some : 1 ≤ upper = omega (c.if-upper-eq0.false, arith) in
    let U = c.below-2 in
    let N = c.class_of_member in
    let member = c.in_ok-member.member.now in
    let whole = view.class_of c.args.class.now in
    let found : length steps ≤ 2 * (2 * reach) → Some (view.member_of member) ≡ pure.member_at (pure.class whole) (take (2 * upper - 1) steps) =
    λ within. ap (option_map (λ x. view.member_of x.now)) (sym c.in_ok-member.was) ∙ U.ensures.value (halves.upper_within steps odd some reach within) in (
      (
        ap ghost_name_of (sym c.from_residual-in_err-inner.ensures),
        λ w. on_none _ c.from_residual-in_err-inner.result c.from_residual-in_err-inner.ensures,
        λ within.
            halves.member_same_join whole _ (view.member_of member) _ (take (2 * upper - 1) steps) (found within)
            (on_that U.result c.in_ok-member.was (U.follows.holds (views.roll-Member g.row.A.Denot (record { mark = member.mark; kind = N.follows.lender-at-none }))) (halves.upper_within steps odd some reach within))
            (N.follows.holds-at-none member.mark),
      ),
      record {
        writes_back = tt;
        value = λ within.
            ap (option_map (λ x. view.member_of x.now)) c.from_residual-in_err-inner.ensures
            ∙ halves.inner_missing whole _ (get_or steps (2 * upper - 1) 0) _ steps (upper - 1) (halves.halves_join steps odd some) (halves.upper_odd steps odd some)
            (view.member_of member) (found within) (ap (option_map (λ x. view.class_of x.now)) (sym c.in_err-inner.was) ∙ N.ensures.value member.mark);
      },
    )

pub returns : goal.returns
returns g c =
    let steps = c.args.steps.now in
    let upper = halves.upper_of steps in
    let reach = g.A.ClassLevel.reach in
    let odd = c.if-steps-eq0.false in
    let some : 1 ≤ upper = omega (c.if-upper-eq0.false, arith) in
    let U = c.below-2 in
    let N = c.class_of_member in
    let L = c.below-3 in
    let member = c.in_ok-member.member.now in
    let inner = c.in_ok-inner.inner.now in
    let whole = view.class_of c.args.class.now in
    let number = get_or steps (2 * upper - 1) 0 in
    let found : length steps ≤ 2 * (2 * reach) → Some (view.member_of member) ≡ pure.member_at (pure.class whole) (take (2 * upper - 1) steps) =
    λ within. ap (option_map (λ x. view.member_of x.now)) (sym c.in_ok-member.was) ∙ U.ensures.value (halves.upper_within steps odd some reach within) in
    let entered : Some (view.class_of inner) ≡ option_and_then pure.as_class (pure.child_of (pure.member (view.member_of member)) number) =
    ap (option_map (λ x. view.class_of x.now)) (sym c.in_ok-inner.was) ∙ N.ensures.value member.mark in (
      (
        refl,
        λ w. on_some_also L.result (L.follows.holds w)
            (λ third within.
            halves.class_write_join whole _ (view.class_of (L.follows.lender w)) (view.class_of inner) (view.member_of member) _ (pure.member (view.member_of w))
            (take (2 * upper - 1) steps) number _ steps (halves.halves_join steps odd some) (found within) entered
            (on_that U.result c.in_ok-member.was (U.follows.holds (views.roll-Member g.row.A.Denot (record { mark = member.mark; kind = N.follows.lender (L.follows.lender w) }))) (halves.upper_within steps odd some reach within))
            (on_that N.result c.in_ok-inner.was (N.follows.holds (L.follows.lender w)) member.mark)
            (third (halves.lower_within steps odd some reach within))),
        λ within.
            halves.class_same_join whole _ (view.class_of L.follows.lender-at-none) (view.class_of inner) (view.member_of member) _
            (take (2 * upper - 1) steps) number (found within) entered
            (on_that U.result c.in_ok-member.was (U.follows.holds (views.roll-Member g.row.A.Denot (record { mark = member.mark; kind = N.follows.lender L.follows.lender-at-none }))) (halves.upper_within steps odd some reach within))
            (on_that N.result c.in_ok-inner.was (N.follows.holds L.follows.lender-at-none) member.mark)
            (L.follows.holds-at-none (halves.lower_within steps odd some reach within)),
      ),
      record {
        writes_back = tt;
        value = λ within. L.ensures.value (halves.lower_within steps odd some reach within)
            ∙ halves.member_joined whole _ number _ steps (upper - 1) (halves.halves_join steps odd some) (halves.upper_odd steps odd some) (view.member_of member) (view.class_of inner) (found within) entered;
      },
    )
