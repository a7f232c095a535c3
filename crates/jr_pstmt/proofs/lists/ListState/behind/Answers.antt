use Rattle.std.proofs.Common.{◌≡◌, ◌∙◌, sym, ap, subst}
use Rattle.std.specs.Prelude.{option_map}
use Rattle.std.specs.Result.{IfOk}
use Rattle.jr_pexpr.specs.Marked.{join}
use Rattle.jr_pexpr.specs.TokenView.{token_view}
use Rattle.jr_pstmt.specs.ListView.{list_state, mode_view}
use Rattle.jr_pstmt.specs.PlaceView.{on, all, place_view}
use Rattle.jr_pstmt.specs.StatementMachine.{step, from_type}
use Rattle.jr_pstmt.specs.TypeStateView.{type_state}
use Rattle.jr_pstmt.proofs.lists.ListState.behind.Goals as goal

pub returns-in-InType : goal.returns-in-InType
returns-in-InType c =
    let p = c.args.self.place in
    let s = type_state c.in-InType.ty in
    subst (λ e. IfOk c.step_type.result (λ x. option_map list_state x ≡ e))
    (ap (λ q. from_type join (on p) (all p) c.in-InType.start c.in-InType.is_final s c.args.at q) c.cue_of-cue.ensures
    ∙ ap (λ m. step join (mode_view (place_view p) m) c.args.at (token_view c.args.token)) (sym c.in-InType.is))
    c.step_type.ensures
