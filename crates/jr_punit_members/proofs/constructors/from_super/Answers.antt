use Rattle.std.proofs.Common.{◌∙◌, Some, sym, ap, subst}
use Rattle.jr_pexpr.specs.Marked.{join}
use Rattle.jr_pexpr.specs.TokenView.{token_view}
use Rattle.jr_pstmt.specs.Cues.{cue_of}
use Rattle.jr_punit_members.specs.HeadView.{constructor_view}
use Rattle.jr_punit_members.specs.OwnView.{IsNextOwn}
use Rattle.jr_pstmt.specs.OwnMachine.{from_super, in_super}
use Rattle.jr_punit_members.proofs.OwnSteps.{open_is, open_goes}
use Rattle.jr_punit_members.proofs.constructors.from_super.Goals as goal

pub returns-then-is_open : goal.returns-then-is_open
returns-then-is_open c =
    let t = token_view c.args.token in
    ap (λ s. Some s) (ap (λ a. in_super (constructor_view c.args.of.value) a) c.new.ensures)
    ∙ sym (ap (from_super join (constructor_view c.args.of.value) c.args.start c.args.at t) (open_is (cue_of t) (sym c.is_open.ensures ∙ c.if-is_open.true)))

pub returns : goal.returns
returns c =
    let t = token_view c.args.token in
    subst (λ n. IsNextOwn c.second_in_body.result n)
    (open_goes (constructor_view c.args.of.value) c.args.start c.args.at t (cue_of t) (sym c.is_open.ensures ∙ c.if-is_open.false))
    c.second_in_body.ensures
