use Rattle.std.proofs.Common.{◌∙◌, sym, ap, subst}
use Rattle.std.specs.Prelude.{◌&&◌, is_some}
use Rattle.jr_pexpr.specs.Marked.{join}
use Rattle.jr_pexpr.specs.TokenView.{token_view}
use Rattle.jr_pstmt.specs.CueTests.{is_close_brace}
use Rattle.jr_pstmt.specs.Cues.{cue_of}
use Rattle.jr_pstmt.specs.ListView.{list_state}
use Rattle.jr_pstmt.specs.StatementMachine.{whole}
use Rattle.jr_punit_members.specs.HeadView.{body_view}
use Rattle.jr_punit_members.specs.OwnView.{IsNextOwn}
use Rattle.jr_punit_members.proofs.OwnSteps.{body_ends, body_goes}
use Rattle.jr_punit_members.proofs.bodies.from_body.Goals as goal

pub returns-then-ends_body : goal.returns-then-ends_body
returns-then-ends_body c =
    subst (λ n. IsNextOwn c.end_body.result n)
    (body_ends (body_view c.args.body.value) (list_state c.args.items.value) c.args.at (token_view c.args.token) (ap (λ l. is_close_brace (cue_of (token_view c.args.token)) && is_some (whole join (list_state l))) (sym c.deref.ensures) ∙ sym c.ends_body.ensures ∙ c.if-ends_body.true))
    c.end_body.ensures

pub returns-else-ends_body : goal.returns-else-ends_body
returns-else-ends_body c =
    subst (λ n. IsNextOwn c.body_goes_on.result n)
    (body_goes (body_view c.args.body.value) (list_state c.args.items.value) c.args.at (token_view c.args.token) (ap (λ l. is_close_brace (cue_of (token_view c.args.token)) && is_some (whole join (list_state l))) (sym c.deref.ensures) ∙ sym c.ends_body.ensures ∙ c.if-ends_body.false))
    c.body_goes_on.ensures
