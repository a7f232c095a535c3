use Rattle.std.proofs.Common.{◌∙◌, sym, ap, subst}
use Rattle.jr_pexpr.specs.Marked.{join}
use Rattle.jr_pexpr.specs.TokenView.{token_view}
use Rattle.jr_punit_members.specs.OwnView.{own_state}
use Rattle.jr_punit.specs.ClassView.{member_state, begins_class}
use Rattle.jr_pstmt.specs.InPlace.{GoesTo}
use Rattle.jr_punit_laws.specs.MemberMachine as machine
use Rattle.jr_pstmt.specs.OwnMachine as Own
use Rattle.jr_punit.proofs.ClassSteps.{own_goes}
use Rattle.jr_pstmt.proofs.InPlace.{goes_within}
use Rattle.jr_punit.proofs.member_state.MemberState.step.Goals as goal

pub returns-else-begins : goal.returns-else-begins
returns-else-begins c =
    let s = own_state c.in-Own.own.value in
    subst (GoesTo c.step.result (machine.own (own_state c.step.new.self)))
    (sym (own_goes c.args.nested c.args.name.now s c.args.at (token_view c.args.token) (ap (λ b. begins_class c.args.nested (own_state b) (token_view c.args.token)) (sym c.deref.ensures) ∙ sym c.begins.ensures ∙ c.if-begins.false))
    ∙ ap (λ o. machine.step join c.args.nested c.args.name.now (member_state o) c.args.at (token_view c.args.token)) (sym c.in-Own.is))
    (goes_within machine.own c.step.result (own_state c.step.new.self) _
    (subst (λ o. GoesTo c.step.result (own_state c.step.new.self) (Own.step join c.args.name.now (own_state o) c.args.at (token_view c.args.token)))
    c.deref_mut-else-begins.ensures.value c.step.ensures))
