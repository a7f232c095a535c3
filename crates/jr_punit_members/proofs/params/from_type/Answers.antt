use Rattle.std.proofs.Common.{subst}
use Rattle.jr_pstmt.specs.CueView.{cue_view}
use Rattle.jr_pstmt.specs.TypeStateView.{type_state}
use Rattle.jr_punit_members.specs.ParamView.{params_view, IsNextParam}
use Rattle.jr_punit_members.proofs.OwnSteps.{param_goes, not_word}
use Rattle.jr_punit_members.proofs.params.from_type.Goals as goal

pub returns-in_default : goal.returns-in_default
returns-in_default c =
    subst (λ n. IsNextParam c.type_goes_on.result n)
    (param_goes (params_view c.args.params) c.args.start c.args.is_final (type_state c.args.ty) c.args.at (cue_view c.args.cue) (not_word c.args.cue c.in_default.not-Word))
    c.type_goes_on.ensures
