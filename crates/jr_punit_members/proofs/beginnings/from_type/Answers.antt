use Rattle.std.proofs.Common.{subst}
use Rattle.jr_pstmt.specs.CueView.{cue_view}
use Rattle.jr_pstmt.specs.TypeStateView.{type_state}
use Rattle.jr_punit_members.specs.LeadView.{lead_view}
use Rattle.jr_punit_members.specs.OwnView.{IsNextOwn}
use Rattle.jr_punit_members.proofs.OwnSteps.{type_goes, not_word, not_open}
use Rattle.jr_punit_members.proofs.beginnings.from_type.Goals as goal

pub returns-in_default : goal.returns-in_default
returns-in_default c =
    subst (λ n. IsNextOwn c.type_goes_on.result n)
    (type_goes c.args.name.now (lead_view c.args.lead) (type_state c.args.ty) c.args.at (cue_view c.args.cue) (not_word c.args.cue c.in_default.not-Word) (not_open c.args.cue c.in_default.not-Open))
    c.type_goes_on.ensures
