use Rattle.std.proofs.Common.{◌∙◌, subst}
use Rattle.jr_pexpr.specs.TokenView.{token_view}
use Rattle.jr_punit_members.specs.ArgView.{arg_state}
use Rattle.jr_punit_members.specs.HeadView.{constructor_view}
use Rattle.jr_punit_members.specs.OwnView.{IsNextOwn}
use Rattle.jr_punit_members.proofs.OwnSteps.{arguments_end, arguments_go, both_are}
use Rattle.jr_punit_members.proofs.constructors.from_arguments.Goals as goal

pub returns-then-ends : goal.returns-then-ends
returns-then-ends c =
    subst (λ n. IsNextOwn c.end_arguments.result n)
    (arguments_end (constructor_view c.args.of.value) (arg_state c.args.args) c.args.at (token_view c.args.token) (both_are _ _ _ _ c.is_close.ensures c.is_whole.ensures ∙ c.if-ends.true))
    c.end_arguments.ensures

pub returns : goal.returns
returns c =
    subst (λ n. IsNextOwn c.arguments_go_on.result n)
    (arguments_go (constructor_view c.args.of.value) (arg_state c.args.args) c.args.at (token_view c.args.token) (both_are _ _ _ _ c.is_close.ensures c.is_whole.ensures ∙ c.if-ends.false))
    c.arguments_go_on.ensures
