use Rattle.std.proofs.Common.{◌∙◌, sym, ap, subst}
use Rattle.jr_pexpr.specs.Marked.{join}
use Rattle.jr_pexpr.specs.StateView.{state_view}
use Rattle.jr_pexpr.specs.TokenView.{token_view}
use Rattle.jr_pstmt.specs.FrameView.{slot_view}
use Rattle.jr_pstmt.specs.InPlace.{GoesTo}
use Rattle.jr_pstmt.specs.ListView.{list_state, mode_view}
use Rattle.jr_pstmt.specs.PlaceView.{on, all, place_view}
use Rattle.jr_pstmt.specs.StatementMachine.{step, in_exp, in_eval}
use Rattle.jr_pstmt.proofs.Closers.{value_goes_on, eval_goes}
use Rattle.jr_pstmt.proofs.InPlace.{goes_within}
use Rattle.jr_pstmt.proofs.lists.ListState.step.Goals as goal

pub returns-else-ends_value : goal.returns-else-ends_value
returns-else-ends_value c =
    let p = c.args.self.now.place in
    let slot = slot_view c.in-InExpr.slot in
    let s = state_view c.in-InExpr.state in
    subst (GoesTo c.value_on.result (in_exp (on p) (all p) slot (state_view c.value_on.new.state)))
    (value_goes_on (on p) (all p) slot s c.args.at (token_view c.args.token) (sym c.ends_value.ensures ∙ c.if-ends_value.false)
    ∙ ap (λ m. step join (mode_view (place_view p) m) c.args.at (token_view c.args.token)) (sym c.in-InExpr.is))
    (goes_within (in_exp (on p) (all p) slot) c.value_on.result (state_view c.value_on.new.state) _ c.value_on.ensures)

pub returns-else-ends_eval : goal.returns-else-ends_eval
returns-else-ends_eval c =
    let p = c.args.self.now.place in
    let s = state_view c.in-InEval.state in
    subst (GoesTo c.eval_on.result (in_eval (on p) (all p) (state_view c.eval_on.new.state)))
    (eval_goes (on p) (all p) s c.args.at (token_view c.args.token) (sym c.ends_eval.ensures ∙ c.if-ends_eval.false)
    ∙ ap (λ m. step join (mode_view (place_view p) m) c.args.at (token_view c.args.token)) (sym c.in-InEval.is))
    (goes_within (in_eval (on p) (all p)) c.eval_on.result (state_view c.eval_on.new.state) _ c.eval_on.ensures)
