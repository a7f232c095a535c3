use Rattle.std.proofs.Common.{◌∙◌, Some, sym, ap, subst}
use Rattle.jr_pexpr.specs.Marked.{join}
use Rattle.jr_pexpr.specs.TokenView.{token_view}
use Rattle.jr_pstmt.specs.Cues.{cue_of}
use Rattle.jr_punit_members.specs.HeadView.{constructor_view}
use Rattle.jr_punit_members.specs.OwnView.{IsNextOwn}
use Rattle.jr_pstmt.specs.OwnMachine.{from_constructor}
use Rattle.jr_punit_members.proofs.OwnSteps.{super_is, super_goes}
use Rattle.jr_punit_members.proofs.constructors.from_constructor.Goals as goal

pub returns-then-is_super : goal.returns-then-is_super
returns-then-is_super c =
    let t = token_view c.args.token in
    sym (ap (from_constructor join (constructor_view c.args.of.value) c.args.at t) (super_is (cue_of t) (sym c.is_super.ensures ∙ c.if-is_super.true)))

pub returns : goal.returns
returns c =
    let t = token_view c.args.token in
    subst (λ n. IsNextOwn c.first_in_body.result n)
    (super_goes (constructor_view c.args.of.value) c.args.at t (cue_of t) (sym c.is_super.ensures ∙ c.if-is_super.false))
    c.first_in_body.ensures
