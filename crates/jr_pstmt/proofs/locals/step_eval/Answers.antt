use Rattle.std.proofs.Common.{◌≡◌, ◌∙◌, sym, ap, subst}
use Rattle.std.specs.Prelude.{option_map}
use Rattle.std.specs.Result.{IfOk}
use Rattle.jr_pexpr.specs.StateView.{state_view}
use Rattle.jr_pexpr.specs.TokenView.{token_view}
use Rattle.jr_pstmt.specs.CueView.{cue_view}
use Rattle.jr_pstmt.specs.ListView.{list_state}
use Rattle.jr_pstmt.specs.PlaceView.{on, all}
use Rattle.jr_pstmt.proofs.Closers.{eval_ends, eval_word}
use Rattle.jr_pstmt.proofs.locals.step_eval.Goals as goal

pub returns-in-Semicolon : goal.returns-in-Semicolon
returns-in-Semicolon c =
    subst (λ e. IfOk c.end_eval.result (λ x. option_map list_state x ≡ e))
    (eval_ends (on c.args.place) (all c.args.place) (state_view c.args.state) c.args.at (token_view c.args.token) (sym c.cue_of.ensures ∙ ap cue_view c.in-Semicolon.is))
    c.end_eval.ensures

pub returns-in-Word : goal.returns-in-Word
returns-in-Word c =
    subst (λ e. IfOk c.word_behind.result (λ x. option_map list_state x ≡ e))
    (eval_word (on c.args.place) (all c.args.place) (state_view c.args.state) c.args.at (token_view c.args.token) c.in-Word.text.now (sym c.cue_of.ensures ∙ ap cue_view c.in-Word.is))
    c.word_behind.ensures
