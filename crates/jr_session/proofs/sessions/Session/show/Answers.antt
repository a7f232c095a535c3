use Rattle.std.proofs.Common.{◌≡◌, ◌+◌, sym, ap, subst, ◌∙◌}
use Rattle.std.specs.Prelude.{Option, MatchOption, IfOk}
use Rattle.std.proofs.lemmas.Result.{IfOk-weaker}
use Rattle.jr_names.specs.declared.steps.What.TheVariants.{Bindings}
use Rattle.jr_names.specs.Replies.{refused, shown as shown_reply}
use Rattle.jr_names.specs.ReplyView.{reply_of}
use Rattle.jr_names.specs.Refusals.{report_full}
use Rattle.jr_lines.specs.Lines.{bytes_of}
use Rattle.jr_sources.specs.declared.analyses.SourceFault.{SourceFault}
use Rattle.jr_sources.specs.Analysed.{IsAnalysis, IsFilled, IsSourceFault}
use Rattle.jr_sources.specs.Sources.{HasName}
use Rattle.jr_session.specs.States.{State}
use Rattle.jr_session.specs.Stepping.{Steps}
use Rattle.jr_session.specs.Work.{IsWithinWork}
use Rattle.jr_session.proofs.SessionSteps.{number_within}
use Rattle.jr_session.proofs.ShowSteps.{the_show}
use Rattle.jr_session.proofs.Showing.{work_of, fault_reply, full_step, lines_step}
use Rattle.jr_session.proofs.StateLaws.{state_of}
use Rattle.jr_session.proofs.sessions.Session.show.Goals as goal

pub returns-in_err-found-clause-work : goal.returns-in_err-found-clause-work
returns-in_err-found-clause-work g c = subst (λ (s : State). IsWithinWork s (the_show c.args.file.now Bindings) c.args.steps.now c.keep_analysis.new.steps) c.self.view_is
    (work_of (state_of c.self.inside.sources c.self.inside.undo.items c.self.inside.redo.items c.self.inside.shown) c.args.file.now Bindings c.args.steps.now c.keep_analysis.new.steps c.keep_analysis.ensures.cost)

pub returns-in-Some-found-clause-step : goal.returns-in-Some-found-clause-step
returns-in-Some-found-clause-step g c =
    let named : HasName c.self.inside.sources c.in-Some.number c.args.file.now = subst (HasName c.self.inside.sources c.in-Some.number) c.as_str.ensures c.in-Some.ensures.found in
    let is : IsSourceFault c.self.inside.sources c.in-Some-found.fault = subst (λ (o : Option SourceFault). MatchOption o (IsFilled c.keep_analysis.new.kept) (IsSourceFault c.self.inside.sources)) c.in-Some-found.is c.in_ok-found.ensures.found in
    subst (λ (s : State). IfOk c.source_error.result (λ reply. Steps s (the_show c.args.file.now Bindings) (reply_of reply) (state_of c.self.inside.sources c.self.inside.undo.items c.self.inside.redo.items c.self.inside.shown))) c.self.view_is
    (IfOk-weaker c.source_error.result _ _ (λ reply h. fault_reply c.self.inside.sources c.self.inside.undo.items c.self.inside.redo.items c.self.inside.shown c.args.file.now c.in-Some.number named Bindings c.in-Some-found.fault is h.0 h.1 (reply_of reply) h.2) c.source_error.ensures)

pub returns-in-Some-found-clause-work : goal.returns-in-Some-found-clause-work
returns-in-Some-found-clause-work g c = subst (λ (s : State). IsWithinWork s (the_show c.args.file.now Bindings) c.args.steps.now c.keep_analysis.new.steps) c.self.view_is
    (work_of (state_of c.self.inside.sources c.self.inside.undo.items c.self.inside.redo.items c.self.inside.shown) c.args.file.now Bindings c.args.steps.now c.keep_analysis.new.steps c.keep_analysis.ensures.cost)

pub lines_of-requires-clause-number : goal.lines_of-requires-clause-number
lines_of-requires-clause-number g c = number_within c.self.inside.sources c.in-Some.number c.as_str.result.now c.in-Some.ensures.found

pub returns-in_err-lines-clause-work : goal.returns-in_err-lines-clause-work
returns-in_err-lines-clause-work g c = subst (λ (s : State). IsWithinWork s (the_show c.args.file.now Bindings) c.args.steps.now c.keep_analysis.new.steps) c.self.view_is
    (work_of (state_of c.self.inside.sources c.self.inside.undo.items c.self.inside.redo.items c.self.inside.shown) c.args.file.now Bindings c.args.steps.now c.keep_analysis.new.steps c.keep_analysis.ensures.cost)

pub returns-in_default-shown_with-clause-work : goal.returns-in_default-shown_with-clause-work
returns-in_default-shown_with-clause-work g c = subst (λ (s : State). IsWithinWork s (the_show c.args.file.now Bindings) c.args.steps.now c.keep_analysis.new.steps) c.self.view_is
    (work_of (state_of c.self.inside.sources c.self.inside.undo.items c.self.inside.redo.items c.self.inside.shown) c.args.file.now Bindings c.args.steps.now c.keep_analysis.new.steps c.keep_analysis.ensures.cost)

pub returns-then-len-gt-MAX_SHOWN_LEN-clause-step : goal.returns-then-len-gt-MAX_SHOWN_LEN-clause-step
returns-then-len-gt-MAX_SHOWN_LEN-clause-step g c =
    let named : HasName c.self.inside.sources c.in-Some.number c.args.file.now = subst (HasName c.self.inside.sources c.in-Some.number) c.as_str.ensures c.in-Some.ensures.found in
    let kept : IsFilled c.keep_analysis.new.kept = subst (λ (o : Option SourceFault). MatchOption o (IsFilled c.keep_analysis.new.kept) (IsSourceFault c.self.inside.sources)) c.in_default-found.is c.in_ok-found.ensures.found in
    let is : IsAnalysis c.self.inside.sources kept.0 = c.keep_analysis.ensures.kept kept.0 kept.1 in
    let e : c.in-Some-shown_with.len ≡ c.self.inside.shown + bytes_of c.in_ok-lines.lines.items = c.in-Some-shown_with.ensures ∙ ap (λ ls. c.self.inside.shown + bytes_of ls) c.as_slice.ensures.value in
    subst (λ (s : State). Steps s (the_show c.args.file.now Bindings) (refused (report_full c.in-Some-shown_with.len)) (state_of c.self.inside.sources c.self.inside.undo.items c.self.inside.redo.items c.self.inside.shown)) c.self.view_is
    (full_step c.self.inside.sources c.self.inside.undo.items c.self.inside.redo.items c.self.inside.shown c.args.file.now c.in-Some.number named c.in-Some.ensures.valid.differ c.text_has_one_reading.ensures c.step_has_one_answer.ensures.lines kept.0 is Bindings c.in_ok-lines.lines.items c.in_ok-lines.ensures c.in-Some-shown_with.len c.if-len-gt-MAX_SHOWN_LEN.true e)

pub returns-then-len-gt-MAX_SHOWN_LEN-clause-work : goal.returns-then-len-gt-MAX_SHOWN_LEN-clause-work
returns-then-len-gt-MAX_SHOWN_LEN-clause-work g c = subst (λ (s : State). IsWithinWork s (the_show c.args.file.now Bindings) c.args.steps.now c.keep_analysis.new.steps) c.self.view_is
    (work_of (state_of c.self.inside.sources c.self.inside.undo.items c.self.inside.redo.items c.self.inside.shown) c.args.file.now Bindings c.args.steps.now c.keep_analysis.new.steps c.keep_analysis.ensures.cost)

pub returns-clause-step : goal.returns-clause-step
returns-clause-step g c =
    let named : HasName c.self.inside.sources c.in-Some.number c.args.file.now = subst (HasName c.self.inside.sources c.in-Some.number) c.as_str.ensures c.in-Some.ensures.found in
    let kept : IsFilled c.keep_analysis.new.kept = subst (λ (o : Option SourceFault). MatchOption o (IsFilled c.keep_analysis.new.kept) (IsSourceFault c.self.inside.sources)) c.in_default-found.is c.in_ok-found.ensures.found in
    let is : IsAnalysis c.self.inside.sources kept.0 = c.keep_analysis.ensures.kept kept.0 kept.1 in
    let e : c.in-Some-shown_with.len ≡ c.self.inside.shown + bytes_of c.in_ok-lines.lines.items = c.in-Some-shown_with.ensures ∙ ap (λ ls. c.self.inside.shown + bytes_of ls) c.as_slice.ensures.value in
    let now : State = state_of c.self.inside.sources c.self.inside.undo.items c.self.inside.redo.items c.in-Some-shown_with.len in
    subst (λ lines. Steps c.args.self.now (the_show c.args.file.now Bindings) (shown_reply lines) now) (sym c.from_vec.ensures)
    (subst (λ (s : State). Steps s (the_show c.args.file.now Bindings) (shown_reply c.in_ok-lines.lines.items) now) c.self.view_is
    (lines_step c.self.inside.sources c.self.inside.undo.items c.self.inside.redo.items c.self.inside.shown c.args.file.now c.in-Some.number named c.in-Some.ensures.valid.differ c.text_has_one_reading.ensures c.step_has_one_answer.ensures.lines kept.0 is Bindings c.in_ok-lines.lines.items c.in_ok-lines.ensures c.in-Some-shown_with.len c.if-len-gt-MAX_SHOWN_LEN.false e))

pub returns-clause-work : goal.returns-clause-work
returns-clause-work g c = subst (λ (s : State). IsWithinWork s (the_show c.args.file.now Bindings) c.args.steps.now c.keep_analysis.new.steps) c.self.view_is
    (work_of (state_of c.self.inside.sources c.self.inside.undo.items c.self.inside.redo.items c.self.inside.shown) c.args.file.now Bindings c.args.steps.now c.keep_analysis.new.steps c.keep_analysis.ensures.cost)
