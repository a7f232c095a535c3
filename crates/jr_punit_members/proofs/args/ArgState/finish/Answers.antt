use Rattle.std.proofs.Common.{◌≡◌, ◌∙◌, subst}
use Rattle.std.specs.Prelude.{IfOk}
use Rattle.jr_ast.specs.View.{args_of}
use Rattle.jr_pexpr.specs.StateView.{state_view}
use Rattle.jr_punit_members.proofs.OwnSteps.{none_is, both_are, last_where}
use Rattle.jr_punit_members.proofs.args.ArgState.finish.Goals as goal

pub returns : goal.returns
returns c =
    let v = c.args.self.args in
    subst (λ n. IfOk c.finish_last.result (λ made. args_of made ≡ n))
    (last_where v.items (state_view c.args.self.last) (both_are _ _ _ _ (c.is_empty.ensures ∙ none_is v.items v.len v.ok.0) c.is_start.ensures ∙ c.if-none.false))
    c.finish_last.ensures
