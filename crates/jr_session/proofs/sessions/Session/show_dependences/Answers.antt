use Rattle.std.proofs.Common.{sym, subst, ◌∙◌}
use Rattle.std.specs.Prelude.{Option, MatchOption, IfOk}
use Rattle.std.proofs.lemmas.Result.{IfOk-weaker}
use Rattle.jr_table.specs.KeyView.{member_key_of}
use Rattle.jr_names.specs.declared.steps.What.TheVariants.{Dependences}
use Rattle.jr_names.specs.Replies.{refused, shown as shown_reply}
use Rattle.jr_names.specs.ReplyView.{reply_of}
use Rattle.jr_names.specs.Refusals.{report_full, too_many_sites}
use Rattle.jr_dependence_lines.specs.declared.file_lines.Shown.{Shown}
use Rattle.jr_sources.specs.declared.analyses.SourceFault.{SourceFault}
use Rattle.jr_sources.specs.Analysed.{IsAnalysis, IsFilled, IsSourceFault}
use Rattle.jr_sources.specs.Sources.{HasName}
use Rattle.jr_session.specs.Shows.{IsDependenceShow}
use Rattle.jr_session.specs.States.{State}
use Rattle.jr_session.specs.Stepping.{Steps}
use Rattle.jr_session.specs.Work.{IsWithinWork}
use Rattle.jr_session.proofs.SessionSteps.{number_within}
use Rattle.jr_session.proofs.ShowSteps.{the_show}
use Rattle.jr_session.proofs.Showing.{work_of, fault_reply, full_step, lines_step, large_step}
use Rattle.jr_session.proofs.StateLaws.{state_of}
use Rattle.jr_session.proofs.sessions.Session.show_dependences.Goals as goal

pub returns-in_err-found-clause-work : goal.returns-in_err-found-clause-work
returns-in_err-found-clause-work g c = subst (λ (s : State). IsWithinWork s (the_show c.args.file.now Dependences) c.args.steps.now c.keep_analysis.new.steps) c.self.view_is
    (work_of (state_of c.self.inside.sources c.self.inside.undo.items c.self.inside.redo.items c.self.inside.shown) c.args.file.now Dependences c.args.steps.now c.keep_analysis.new.steps c.keep_analysis.ensures.cost)

pub source_error-requires : goal.source_error-requires
source_error-requires g c =
    let is : IsSourceFault c.self.inside.sources c.in-Some-found.fault = subst (λ (o : Option SourceFault). MatchOption o (IsFilled c.keep_analysis.new.kept) (IsSourceFault c.self.inside.sources)) c.in-Some-found.is c.in_ok-found.ensures.found in
    number_within c.self.inside.sources c.in-Some-found.fault.file is.name is.named

pub returns-in-Some-found-clause-step : goal.returns-in-Some-found-clause-step
returns-in-Some-found-clause-step g c =
    let named : HasName c.self.inside.sources c.in-Some.number c.args.file.now = subst (HasName c.self.inside.sources c.in-Some.number) c.as_str.ensures c.in-Some.ensures.found in
    let is : IsSourceFault c.self.inside.sources c.in-Some-found.fault = subst (λ (o : Option SourceFault). MatchOption o (IsFilled c.keep_analysis.new.kept) (IsSourceFault c.self.inside.sources)) c.in-Some-found.is c.in_ok-found.ensures.found in
    subst (λ (s : State). IfOk c.source_error.result (λ reply. Steps s (the_show c.args.file.now Dependences) (reply_of reply) (state_of c.self.inside.sources c.self.inside.undo.items c.self.inside.redo.items c.self.inside.shown))) c.self.view_is
    (IfOk-weaker c.source_error.result _ _ (λ reply h. fault_reply c.self.inside.sources c.self.inside.undo.items c.self.inside.redo.items c.self.inside.shown c.args.file.now c.in-Some.number named Dependences c.in-Some-found.fault is h.0 h.1 (reply_of reply) h.2) c.source_error.ensures)

pub returns-in-Some-found-clause-work : goal.returns-in-Some-found-clause-work
returns-in-Some-found-clause-work g c = subst (λ (s : State). IsWithinWork s (the_show c.args.file.now Dependences) c.args.steps.now c.keep_analysis.new.steps) c.self.view_is
    (work_of (state_of c.self.inside.sources c.self.inside.undo.items c.self.inside.redo.items c.self.inside.shown) c.args.file.now Dependences c.args.steps.now c.keep_analysis.new.steps c.keep_analysis.ensures.cost)

pub dependences_of-requires-clause-number : goal.dependences_of-requires-clause-number
dependences_of-requires-clause-number g c = number_within c.self.inside.sources c.in-Some.number c.as_str.result.now c.in-Some.ensures.found

pub returns-in_err-shown-clause-work : goal.returns-in_err-shown-clause-work
returns-in_err-shown-clause-work g c = subst (λ (s : State). IsWithinWork s (the_show c.args.file.now Dependences) c.args.steps.now c.keep_analysis.new.steps) c.self.view_is
    (work_of (state_of c.self.inside.sources c.self.inside.undo.items c.self.inside.redo.items c.self.inside.shown) c.args.file.now Dependences c.args.steps.now c.keep_analysis.new.steps c.keep_analysis.ensures.cost)

pub returns-then-len-gt-MAX_SHOWN_LEN-clause-step : goal.returns-then-len-gt-MAX_SHOWN_LEN-clause-step
returns-then-len-gt-MAX_SHOWN_LEN-clause-step g c =
    let named : HasName c.self.inside.sources c.in-Some.number c.args.file.now = subst (HasName c.self.inside.sources c.in-Some.number) c.as_str.ensures c.in-Some.ensures.found in
    let kept : IsFilled c.keep_analysis.new.kept = subst (λ (o : Option SourceFault). MatchOption o (IsFilled c.keep_analysis.new.kept) (IsSourceFault c.self.inside.sources)) c.in_default-found.is c.in_ok-found.ensures.found in
    let is : IsAnalysis c.self.inside.sources kept.0 = c.keep_analysis.ensures.kept kept.0 kept.1 in
    let h = subst (λ (x : Shown). IsDependenceShow c.self.inside.sources c.in-Some.number c.self.inside.shown x) c.in-Lines.is c.in_ok-shown.ensures in
    subst (λ (s : State). Steps s (the_show c.args.file.now Dependences) (refused (report_full c.in-Lines.len)) (state_of c.self.inside.sources c.self.inside.undo.items c.self.inside.redo.items c.self.inside.shown)) c.self.view_is
    (full_step c.self.inside.sources c.self.inside.undo.items c.self.inside.redo.items c.self.inside.shown c.args.file.now c.in-Some.number named c.in-Some.ensures.valid.differ c.text_has_one_reading.ensures c.step_has_one_answer.ensures.lines kept.0 is Dependences h.0 h.1 c.in-Lines.len c.if-len-gt-MAX_SHOWN_LEN.true h.2)

pub returns-then-len-gt-MAX_SHOWN_LEN-clause-work : goal.returns-then-len-gt-MAX_SHOWN_LEN-clause-work
returns-then-len-gt-MAX_SHOWN_LEN-clause-work g c = subst (λ (s : State). IsWithinWork s (the_show c.args.file.now Dependences) c.args.steps.now c.keep_analysis.new.steps) c.self.view_is
    (work_of (state_of c.self.inside.sources c.self.inside.undo.items c.self.inside.redo.items c.self.inside.shown) c.args.file.now Dependences c.args.steps.now c.keep_analysis.new.steps c.keep_analysis.ensures.cost)

pub returns-in-TooManySites-clause-step : goal.returns-in-TooManySites-clause-step
returns-in-TooManySites-clause-step g c =
    let named : HasName c.self.inside.sources c.in-Some.number c.args.file.now = subst (HasName c.self.inside.sources c.in-Some.number) c.as_str.ensures c.in-Some.ensures.found in
    let kept : IsFilled c.keep_analysis.new.kept = subst (λ (o : Option SourceFault). MatchOption o (IsFilled c.keep_analysis.new.kept) (IsSourceFault c.self.inside.sources)) c.in_default-found.is c.in_ok-found.ensures.found in
    let is : IsAnalysis c.self.inside.sources kept.0 = c.keep_analysis.ensures.kept kept.0 kept.1 in
    let h = subst (λ (x : Shown). IsDependenceShow c.self.inside.sources c.in-Some.number c.self.inside.shown x) c.in-TooManySites.is c.in_ok-shown.ensures in
    subst (λ (s : State). Steps s (the_show c.args.file.now Dependences) (refused (too_many_sites (member_key_of c.in-TooManySites.member) c.in-TooManySites.count)) (state_of c.self.inside.sources c.self.inside.undo.items c.self.inside.redo.items c.self.inside.shown)) c.self.view_is
    (large_step c.self.inside.sources c.self.inside.undo.items c.self.inside.redo.items c.self.inside.shown c.args.file.now c.in-Some.number named c.in-Some.ensures.valid.differ c.text_has_one_reading.ensures c.step_has_one_answer.ensures.lines kept.0 is (member_key_of c.in-TooManySites.member) c.in-TooManySites.count h)

pub returns-in-TooManySites-clause-work : goal.returns-in-TooManySites-clause-work
returns-in-TooManySites-clause-work g c = subst (λ (s : State). IsWithinWork s (the_show c.args.file.now Dependences) c.args.steps.now c.keep_analysis.new.steps) c.self.view_is
    (work_of (state_of c.self.inside.sources c.self.inside.undo.items c.self.inside.redo.items c.self.inside.shown) c.args.file.now Dependences c.args.steps.now c.keep_analysis.new.steps c.keep_analysis.ensures.cost)

pub returns-else-len-gt-MAX_SHOWN_LEN-clause-step : goal.returns-else-len-gt-MAX_SHOWN_LEN-clause-step
returns-else-len-gt-MAX_SHOWN_LEN-clause-step g c =
    let named : HasName c.self.inside.sources c.in-Some.number c.args.file.now = subst (HasName c.self.inside.sources c.in-Some.number) c.as_str.ensures c.in-Some.ensures.found in
    let kept : IsFilled c.keep_analysis.new.kept = subst (λ (o : Option SourceFault). MatchOption o (IsFilled c.keep_analysis.new.kept) (IsSourceFault c.self.inside.sources)) c.in_default-found.is c.in_ok-found.ensures.found in
    let is : IsAnalysis c.self.inside.sources kept.0 = c.keep_analysis.ensures.kept kept.0 kept.1 in
    let h = subst (λ (x : Shown). IsDependenceShow c.self.inside.sources c.in-Some.number c.self.inside.shown x) c.in-Lines.is c.in_ok-shown.ensures in
    let now : State = state_of c.self.inside.sources c.self.inside.undo.items c.self.inside.redo.items c.in-Lines.len in
    subst (λ lines. Steps c.args.self.now (the_show c.args.file.now Dependences) (shown_reply lines) now) (sym (h.3 c.if-len-gt-MAX_SHOWN_LEN.false) ∙ sym c.from_vec.ensures)
    (subst (λ (s : State). Steps s (the_show c.args.file.now Dependences) (shown_reply h.0) now) c.self.view_is
    (lines_step c.self.inside.sources c.self.inside.undo.items c.self.inside.redo.items c.self.inside.shown c.args.file.now c.in-Some.number named c.in-Some.ensures.valid.differ c.text_has_one_reading.ensures c.step_has_one_answer.ensures.lines kept.0 is Dependences h.0 h.1 c.in-Lines.len c.if-len-gt-MAX_SHOWN_LEN.false h.2))

pub returns-else-len-gt-MAX_SHOWN_LEN-clause-work : goal.returns-else-len-gt-MAX_SHOWN_LEN-clause-work
returns-else-len-gt-MAX_SHOWN_LEN-clause-work g c = subst (λ (s : State). IsWithinWork s (the_show c.args.file.now Dependences) c.args.steps.now c.keep_analysis.new.steps) c.self.view_is
    (work_of (state_of c.self.inside.sources c.self.inside.undo.items c.self.inside.redo.items c.self.inside.shown) c.args.file.now Dependences c.args.steps.now c.keep_analysis.new.steps c.keep_analysis.ensures.cost)
