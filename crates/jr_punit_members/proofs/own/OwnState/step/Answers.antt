use Rattle.std.proofs.Common.{◌∙◌, sym, ap, subst}
use Rattle.std.specs.Prelude.{◌&&◌, is_some}
use Rattle.jr_pexpr.specs.Marked.{join}
use Rattle.jr_pexpr.specs.TokenView.{token_view}
use Rattle.jr_pstmt.specs.CueTests.{is_close_brace}
use Rattle.jr_pstmt.specs.Cues.{cue_of}
use Rattle.jr_pstmt.specs.InPlace.{GoesTo}
use Rattle.jr_pstmt.specs.ListView.{list_state}
use Rattle.jr_punit_members.specs.HeadView.{body_view}
use Rattle.jr_punit_members.specs.OwnView.{own_state}
use Rattle.jr_pstmt.specs.OwnMachine as machine
use Rattle.jr_pstmt.specs.StatementMachine as statements
use Rattle.jr_punit_members.proofs.OwnSteps.{body_goes}
use Rattle.jr_pstmt.proofs.InPlace.{goes_within}
use Rattle.jr_punit_members.proofs.own.OwnState.step.Goals as goal

pub returns-else-ends_body : goal.returns-else-ends_body
returns-else-ends_body c =
    let b = body_view c.in-InBody.field-0.value in
    let s = list_state c.in-InBody.items.value in
    subst (GoesTo c.step.result (machine.in_body b (list_state c.step.new.self)))
    (body_goes b s c.args.at (token_view c.args.token) (ap (λ l. is_close_brace (cue_of (token_view c.args.token)) && is_some (statements.whole join (list_state l))) (sym c.deref.ensures) ∙ sym c.ends_body.ensures ∙ c.if-ends_body.false)
    ∙ ap (λ o. machine.step join c.args.name.now (own_state o) c.args.at (token_view c.args.token)) (sym c.in-InBody.is))
    (goes_within (machine.in_body b) c.step.result (list_state c.step.new.self) _
    (subst (λ l. GoesTo c.step.result (list_state c.step.new.self) (statements.step join (list_state l) c.args.at (token_view c.args.token)))
    c.deref_mut.ensures.value c.step.ensures))
