use Rattle.std.proofs.Common.{◌≤◌, ◌-◌, length, take, drop, get_or, refl, ap, sym, option_map, ◌∙◌, arith}
use Rattle.std.specs.Option.{ghost_name_of}
use Rattle.jr_ast.specs.View as view
use Rattle.jr_ast.specs.Nodes as pure
use Rattle.jr_paths_nodes.proofs.Lending.{on_none, on_that, on_some_also}
use Rattle.jr_paths_nodes.proofs.Halves.{first_step, rest_short, first_then, first_same}
use Rattle.jr_paths.proofs.Turning.{class_child, unit_inject, empty_member, member_first, no_member_first}
use Rattle.jr_paths.proofs.path_writes.member_below_unit.Goals as goal

pub returns-then-steps-eq0 : goal.returns-then-steps-eq0
returns-then-steps-eq0 g c = ((refl, λ w. tt, refl), record { writes_back = tt; value = empty_member (view.unit_of c.args.unit.now) c.args.steps.now c.if-steps-eq0.true })

pub returns-in_err-class : goal.returns-in_err-class
returns-in_err-class g c =
    let N = c.class_of_unit in
    let steps = c.args.steps.now in
    let some : 1 ≤ length steps = grind (c.if-steps-eq0.false, arith) in (
      (
        ap ghost_name_of (sym c.from_residual.ensures),
        λ w. on_none _ c.from_residual.result c.from_residual.ensures,
        N.follows.holds-at-none,
      ),
      record {
        writes_back = tt;
        value =
            ap (option_map (λ x. view.member_of x.now)) c.from_residual.ensures
            ∙ no_member_first (view.unit_of c.args.unit.now) (get_or steps 0 0) _ steps (first_step steps some)
            (ap (option_map (λ x. view.class_of x.now)) (sym c.in_err-class.was) ∙ N.ensures.value);
      },
    )

pub returns : goal.returns
returns g c =
    let N = c.class_of_unit in
    let L = c.below in
    let steps = c.args.steps.now in
    let u = view.unit_of c.args.unit.now in
    let d = view.class_of c.in_ok-class.class.now in
    let some : 1 ≤ length steps = grind (c.if-steps-eq0.false, arith) in
    let q = take (length steps - 1) (drop 1 steps) in
    let within : length q ≤ 36893488147419103232 = rest_short steps (omega (c.requires, arith)) in
    let found = ap (option_map (λ x. view.class_of x.now)) (sym c.in_ok-class.was) ∙ N.ensures.value in (
      (
        refl,
        λ w. on_some_also L.result (L.follows.holds w)
            (λ second.
            first_then (pure.unit u) (pure.class d) _ _ (pure.member (view.member_of w)) (get_or steps 0 0) _ steps (first_step steps some)
            (class_child (pure.unit u) (get_or steps 0 0) d found)
            (ap pure.unit (on_that N.result c.in_ok-class.was (N.follows.holds (L.follows.lender w))))
            (second within)),
        unit_inject (first_same (pure.unit u) (pure.class d) _ _ (get_or steps 0 0)
            (class_child (pure.unit u) (get_or steps 0 0) d found)
            (ap pure.unit (on_that N.result c.in_ok-class.was (N.follows.holds L.follows.lender-at-none)))
            (ap pure.class (L.follows.holds-at-none within))),
      ),
      record { writes_back = tt; value = L.ensures.value within ∙ member_first u d (get_or steps 0 0) _ steps (first_step steps some) found },
    )
