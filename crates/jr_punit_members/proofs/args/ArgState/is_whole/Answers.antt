use Rattle.std.proofs.Common.{◌∙◌, ◌&&◌, ◌||◌, Bool, ap}
use Rattle.std.specs.Prelude.{is_some}
use Rattle.jr_pexpr.specs.Marked.{join}
use Rattle.jr_pexpr.specs.Machine.{whole}
use Rattle.jr_pexpr.specs.StateView.{state_view}
use Rattle.jr_punit_members.proofs.OwnSteps.{is_none, none_is, whole_where}
use Rattle.jr_punit_members.proofs.args.ArgState.is_whole.Goals as goal

pub returns : goal.returns
returns c =
    let v = c.args.self.now.args in
    let s = state_view c.args.self.now.last in
    ap (λ (b : Bool). b || (c.is_empty.result && c.is_start.result)) c.is_whole.ensures
    ∙ ap (λ (b : Bool). is_some (whole join s) || (b && c.is_start.result)) (c.is_empty.ensures ∙ none_is v.items v.len v.ok.0)
    ∙ ap (λ (b : Bool). is_some (whole join s) || (is_none v.items && b)) c.is_start.ensures
    ∙ whole_where v.items s (whole join s)
