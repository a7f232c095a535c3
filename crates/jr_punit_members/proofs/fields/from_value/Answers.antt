use Rattle.std.proofs.Common.{◌∙◌, sym, subst}
use Rattle.jr_ast.specs.View.{word_of, type_of}
use Rattle.jr_pexpr.specs.StateView.{state_view}
use Rattle.jr_pexpr.specs.TokenView.{token_view}
use Rattle.jr_punit_members.specs.LeadView.{lead_view}
use Rattle.jr_punit_members.specs.OwnView.{IsNextOwn}
use Rattle.jr_punit_members.proofs.OwnSteps.{value_ends, value_goes}
use Rattle.jr_punit_members.proofs.fields.from_value.Goals as goal

pub returns-then-is_semicolon : goal.returns-then-is_semicolon
returns-then-is_semicolon c =
    let h = c.args.head.value in
    subst (λ n. IsNextOwn c.end_value.result n)
    (value_ends (lead_view h.lead) (type_of h.ty) (word_of h.name) (state_view c.args.value) c.args.at (token_view c.args.token) (sym c.is_semicolon.ensures ∙ c.if-is_semicolon.true))
    c.end_value.ensures

pub returns : goal.returns
returns c =
    let h = c.args.head.value in
    subst (λ n. IsNextOwn c.value_goes_on.result n)
    (value_goes (lead_view h.lead) (type_of h.ty) (word_of h.name) (state_view c.args.value) c.args.at (token_view c.args.token) (sym c.is_semicolon.ensures ∙ c.if-is_semicolon.false))
    c.value_goes_on.ensures
