use Rattle.std.proofs.Common.{refl, ap, sym, option_map, ◌∙◌, get_or, arith}
use Rattle.jr_ast.specs.View as view
use Rattle.jr_ast.specs.Nodes as pure
use Rattle.jr_paths_nodes.proofs.Lending.{on_some_with}
use Rattle.jr_paths_nodes.proofs.Halves.{one_step, one_write}
use Rattle.jr_paths_nodes.proofs.ClassHalves.{one_member, member_at_child, none_but_one}
use Rattle.jr_paths_nodes.proofs.member_writes.AnyClassLevelOne.below.Goals as goal

pub returns-then-steps-ne1 : goal.returns-then-steps-ne1
returns-then-steps-ne1 g c =
    ((refl, λ w. tt, λ within. refl), record { writes_back = tt; value = λ within. none_but_one (view.class_of c.args.class.now) c.args.steps.now c.if-steps-ne1.true within })

pub returns : goal.returns
returns g c =
    let N = c.member_of_class in
    let steps = c.args.steps.now in
    let one = one_step steps (omega (c.if-steps-ne1.false, arith)) (omega (c.if-steps-ne1.false, arith)) in
    let n = pure.class (view.class_of c.args.class.now) in (
      (
        refl,
        λ w. on_some_with N.result (N.follows.holds w)
            (λ x is e within.
            ap pure.class e ∙ one_write n (pure.member (view.member_of x.now)) (pure.member (view.member_of w)) (get_or steps 0 0) steps one
            (member_at_child n (get_or steps 0 0) (view.member_of x.now) (sym (ap (option_map (λ y. view.member_of y.now)) is) ∙ N.ensures.value))),
        λ within. N.follows.holds-at-none,
      ),
      record { writes_back = tt; value = λ within. N.ensures.value ∙ one_member n (get_or steps 0 0) steps one },
    )
