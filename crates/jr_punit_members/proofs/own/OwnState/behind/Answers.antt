use Rattle.std.proofs.Common.{◌∙◌, sym, ap, subst}
use Rattle.jr_pexpr.specs.Marked.{join}
use Rattle.jr_pexpr.specs.TokenView.{token_view}
use Rattle.jr_pstmt.specs.TypeStateView.{type_state}
use Rattle.jr_punit_members.specs.LeadView.{lead_view}
use Rattle.jr_punit_members.specs.OwnView.{own_state, IsNextOwn}
use Rattle.jr_pstmt.specs.OwnMachine as M
use Rattle.jr_punit_members.proofs.own.OwnState.behind.Goals as goal

pub returns-in-InType : goal.returns-in-InType
returns-in-InType c =
    subst (λ n. IsNextOwn c.from_type.result n)
    (ap (M.from_type join c.args.name.now (lead_view c.in-InType.lead) (type_state c.in-InType.ty) c.args.at) c.cue_of-in-InType.ensures
    ∙ ap (λ s. M.step join c.args.name.now (own_state s) c.args.at (token_view c.args.token)) (sym c.in-InType.is))
    c.from_type.ensures
