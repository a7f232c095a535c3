use Rattle.std.proofs.Common.{◌∙◌, sym, ap, subst}
use Rattle.jr_pexpr.specs.Marked.{join}
use Rattle.jr_pstmt.specs.CueView.{cue_view}
use Rattle.jr_punit_members.specs.ParamView.{param_state}
use Rattle.jr_punit_members.specs.HeadView.{head_view}
use Rattle.jr_punit_members.specs.OwnView.{IsNextOwn}
use Rattle.jr_pstmt.specs.OwnMachine.{from_params}
use Rattle.jr_punit_members.proofs.OwnSteps.{params_end, params_go, not_close}
use Rattle.jr_punit_members.proofs.bodies.from_params.Goals as goal

pub returns-in-Close : goal.returns-in-Close
returns-in-Close c =
    let h = head_view c.args.head in
    let s = param_state c.args.params in
    subst (λ n. IsNextOwn c.end_params.result n)
    (params_end h s c.args.at ∙ ap (λ q. from_params join h s c.args.at (cue_view q)) (sym c.in-Close.is))
    c.end_params.ensures

pub returns-in_default : goal.returns-in_default
returns-in_default c =
    subst (λ n. IsNextOwn c.params_go_on.result n)
    (params_go (head_view c.args.head) (param_state c.args.params) c.args.at (cue_view c.args.cue) (not_close c.args.cue c.in_default.not-Close))
    c.params_go_on.ensures
