use Rattle.std.proofs.Common.{◌≡◌, ◌∙◌, ◌&&◌, false, sym, ap, subst}
use Rattle.std.specs.Prelude.{is_some, option_map}
use Rattle.std.specs.Result.{IfOk}
use Rattle.jr_pexpr.specs.Machine as E
use Rattle.jr_pexpr.specs.Marked.{join}
use Rattle.jr_pexpr.specs.StateView.{state_view}
use Rattle.jr_pexpr.specs.TokenView.{token_view}
use Rattle.jr_pstmt.specs.Cues.{cue_of}
use Rattle.jr_pstmt.specs.FrameView.{slot_view}
use Rattle.jr_pstmt.specs.ListView.{list_state}
use Rattle.jr_pstmt.specs.PlaceView.{on, all}
use Rattle.jr_pstmt.specs.Slots.{closes}
use Rattle.jr_pstmt.specs.StatementMachine.{in_exp}
use Rattle.jr_pstmt.proofs.Closers.{value_ends, value_goes_on}
use Rattle.jr_pstmt.proofs.PartAnswers.{over_part, both_true}
use Rattle.jr_pstmt.proofs.values.step_value.Goals as goal

pub returns-then-ends_value : goal.returns-then-ends_value
returns-then-ends_value c =
    let slot = slot_view c.args.slot in
    let s = state_view c.args.state in
    let b = both_true (closes slot (cue_of (token_view c.args.token))) (is_some (E.whole join s)) (sym c.ends_value.ensures ∙ c.if-ends_value.true) in
    subst (λ e. IfOk c.finish_in.result (λ x. option_map list_state x ≡ e))
    (value_ends (on c.args.place) (all c.args.place) slot s c.args.at (token_view c.args.token) b.0 b.1)
    c.finish_in.ensures

pub returns-else-ends_value : goal.returns-else-ends_value
returns-else-ends_value c =
    let slot = slot_view c.args.slot in
    let s = state_view c.args.state in
    let no : (closes slot (cue_of (token_view c.args.token)) && is_some (E.whole join s)) ≡ false = sym c.ends_value.ensures ∙ c.if-ends_value.false in
    over_part c.in_expr.result c.step.result c.in_expr.ensures c.step.ensures
    (λ to next h k. h ∙ ap (option_map (in_exp (on c.args.place) (all c.args.place) slot)) k ∙ value_goes_on (on c.args.place) (all c.args.place) slot s c.args.at (token_view c.args.token) no)
