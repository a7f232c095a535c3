use Rattle.std.proofs.Common.{◌∙◌, ap, subst}
use Rattle.jr_text.specs.declared.spans.Span.{Span}
use Rattle.jr_pexpr.specs.Marked.{join}
use Rattle.jr_pexpr.specs.TokenView.{token_view}
use Rattle.jr_pstmt.specs.Cues.{cue_of}
use Rattle.jr_punit_members.specs.HeadView.{constructor_view}
use Rattle.jr_pstmt.specs.ListView.{list_state}
use Rattle.jr_punit_members.specs.OwnView.{IsNextOwn}
use Rattle.jr_pstmt.specs.OwnMachine as M
use Rattle.jr_pstmt.specs.StatementMachine as S
use Rattle.jr_punit_members.proofs.constructors.second_in_body.Goals as goal

pub returns : goal.returns
returns c =
    let t = token_view c.args.token in
    subst (λ n. IsNextOwn c.from_body.result n)
    (ap (λ (b : M.Body Span). M.from_body join b (list_state c.in_ok-items.items.value) c.args.at t (cue_of t)) c.in_ok-body.ensures
    ∙ ap (λ (s : S.State Span). M.from_body join (M.without_super (constructor_view c.args.of.value)) s c.args.at t (cue_of t)) (c.in_ok-items.ensures ∙ c.behind_super.ensures))
    c.from_body.ensures
