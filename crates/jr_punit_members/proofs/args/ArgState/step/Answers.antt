use Rattle.std.proofs.Common.{◌∙◌, subst}
use Rattle.jr_ast.specs.View.{exprs_of}
use Rattle.jr_pexpr.specs.StateView.{state_view}
use Rattle.jr_pexpr.specs.TokenView.{token_view}
use Rattle.jr_punit_members.specs.ArgView.{IsNextArg}
use Rattle.jr_punit_members.proofs.OwnSteps.{argument_ends, argument_goes, both_are}
use Rattle.jr_punit_members.proofs.args.ArgState.step.Goals as goal

pub returns-then-ends : goal.returns-then-ends
returns-then-ends c =
    subst (λ n. IsNextArg c.next_argument.result n)
    (argument_ends (exprs_of c.args.self.args.items) (state_view c.args.self.last) c.args.at (token_view c.args.token) (both_are _ _ _ _ c.is_comma.ensures c.is_whole.ensures ∙ c.if-ends.true))
    c.next_argument.ensures

pub returns : goal.returns
returns c =
    subst (λ n. IsNextArg c.argument_goes_on.result n)
    (argument_goes (exprs_of c.args.self.args.items) (state_view c.args.self.last) c.args.at (token_view c.args.token) (both_are _ _ _ _ c.is_comma.ensures c.is_whole.ensures ∙ c.if-ends.false))
    c.argument_goes_on.ensures
