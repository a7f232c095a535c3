use Rattle.std.proofs.Common.{◌≡◌, ◌∙◌, None, sym, ap, subst}
use Rattle.std.specs.Prelude.{option_map, option_and_then}
use Rattle.std.specs.Result.{IfOk}
use Rattle.jr_pexpr.specs.StateView.{state_view}
use Rattle.jr_pexpr.specs.Starts.{type_read}
use Rattle.jr_pstmt.specs.Inside.{inner}
use Rattle.jr_pstmt.specs.ListView.{list_state}
use Rattle.jr_pstmt.specs.PlaceView.{on, all}
use Rattle.jr_pstmt.specs.StatementMachine.{begin_local, in_eval}
use Rattle.jr_pstmt.proofs.Closers.{type_ends, eval_goes_on}
use Rattle.jr_pstmt.proofs.PartAnswers.{over_part}
use Rattle.jr_pstmt.proofs.locals.word_behind.Goals as goal

pub returns-then-is_type : goal.returns-then-is_type
returns-then-is_type c =
    let fs = on c.args.place in
    let below = all c.args.place in
    let s = state_view c.args.state in
    subst (λ e. IfOk c.begin_local.result (λ x. option_map list_state x ≡ e))
    (ap (λ w. option_and_then (begin_local fs below w) (type_read s)) c.in_ok-name.ensures ∙ type_ends fs below s c.args.at c.args.text.now (sym c.is_type.ensures ∙ c.if-is_type.true))
    c.begin_local.ensures

pub returns : goal.returns
returns c =
    let fs = on c.args.place in
    let below = all c.args.place in
    over_part c.in_eval.result c.statement_step.result c.in_eval.ensures c.statement_step.ensures
    (λ to next h k. h ∙ ap (inner (in_eval fs below) None) k ∙ eval_goes_on fs below (state_view c.args.state) c.args.at c.args.text.now (sym c.is_type.ensures ∙ c.if-is_type.false))
