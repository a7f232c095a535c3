use Rattle.std.proofs.Common.{ℕ, List, length, true≢false, refl, sym, subst}
use Rattle.jr_names.specs.declared.steps.Step.TheVariants as step
use Rattle.jr_names.specs.Replies.{edited}
use Rattle.jr_names.specs.Refusals.{bad_span, too_long}
use Rattle.jr_sources.specs.Sources.{HasName, LacksFile, with_text}
use Rattle.jr_session.specs.States.{State}
use Rattle.jr_session.specs.Splicing.{IsSpliced, CanBecome, CanNotCut, WouldBeTooLong}
use Rattle.jr_session.specs.Refusing.{CutsBadly, IsFirstRefusal}
use Rattle.jr_session.specs.Stepping.{Steps}
use Rattle.jr_session.specs.declared.changes.Change.{Change}
use Rattle.jr_session.specs.Changes.{AreOfFiles, put_back}
use Rattle.jr_session.specs.Turns.{IsChanged}
use Rattle.jr_session.proofs.StateLaws.{state_of, kept_changed, one_of_files}
use Rattle.jr_session.proofs.EditLaws.{span_of}
use Rattle.jr_session.proofs.SessionSteps.{number_within, cut_nowhere, refused_cut, refused_length, cut_somewhere, edited_step, cut_of_none}
use Rattle.jr_session.proofs.sessions.Session.edit.Goals as goal

pub returns-in_err-splice-in-Some-clause-bad_span : goal.returns-in_err-splice-in-Some-clause-bad_span
returns-in_err-splice-in-Some-clause-bad_span c = λ bad.
    let named : HasName c.self.inside.sources c.in-Some.number c.args.file.now = subst (HasName c.self.inside.sources c.in-Some.number) c.as_str.ensures c.in-Some.ensures.found in
    let there : CutsBadly (state_of c.self.inside.sources c.self.inside.undo.items c.self.inside.redo.items c.self.inside.shown) (step.Edit c.args.file.now c.args.from c.args.to c.args.text.now) c.args.from c.args.to = subst (λ (s : State). CutsBadly s (step.Edit c.args.file.now c.args.from c.args.to c.args.text.now) c.args.from c.args.to) (sym c.self.view_is) bad in
    let e = c.in_err-splice-in-Some.ensures.bad_span (cut_nowhere c.self.inside.sources c.self.inside.undo.items c.self.inside.redo.items c.self.inside.shown c.args.file.now c.args.from c.args.to c.args.text.now c.in-Some.number c.in-Some.ensures.valid.differ named there) in
    absurd (true≢false (sym e))

pub change-requires-clause-files : goal.change-requires-clause-files
change-requires-clause-files c =
    let within = number_within c.self.inside.sources c.in-Some.number c.as_str.result.now c.in-Some.ensures.found in
    subst (AreOfFiles (length c.self.inside.sources)) (sym c.in_ok-changes-in-Text.ensures) (one_of_files (length c.self.inside.sources) c.in-Some.number c.in-Text.new within)

pub returns-in_err-changes-in-Text-clause-bad_span : goal.returns-in_err-changes-in-Text-clause-bad_span
returns-in_err-changes-in-Text-clause-bad_span c = λ bad.
    let named : HasName c.self.inside.sources c.in-Some.number c.args.file.now = subst (HasName c.self.inside.sources c.in-Some.number) c.as_str.ensures c.in-Some.ensures.found in
    let there : CutsBadly (state_of c.self.inside.sources c.self.inside.undo.items c.self.inside.redo.items c.self.inside.shown) (step.Edit c.args.file.now c.args.from c.args.to c.args.text.now) c.args.from c.args.to = subst (λ (s : State). CutsBadly s (step.Edit c.args.file.now c.args.from c.args.to c.args.text.now) c.args.from c.args.to) (sym c.self.view_is) bad in
    let can : CanBecome c.self.inside.sources c.in-Some.number (span_of c.args.from c.args.to) c.args.text.now c.in-Text.new = subst (IsSpliced c.self.inside.sources c.in-Some.number (span_of c.args.from c.args.to) c.args.text.now) c.in-Text.is (subst (λ (t : List ℕ). IsSpliced c.self.inside.sources c.in-Some.number (span_of c.args.from c.args.to) t c.in_ok-splice-in-Some.field-0) c.as_str-in-Some.ensures c.in_ok-splice-in-Some.ensures.ok) in
    absurd (cut_somewhere c.self.inside.sources c.self.inside.undo.items c.self.inside.redo.items c.self.inside.shown c.args.file.now c.args.from c.args.to c.args.text.now c.in-Some.number c.in-Some.ensures.valid.differ named c.in-Text.new can there)

pub returns-in_err-change-in-Text-clause-bad_span : goal.returns-in_err-change-in-Text-clause-bad_span
returns-in_err-change-in-Text-clause-bad_span c = λ bad.
    let named : HasName c.self.inside.sources c.in-Some.number c.args.file.now = subst (HasName c.self.inside.sources c.in-Some.number) c.as_str.ensures c.in-Some.ensures.found in
    let there : CutsBadly (state_of c.self.inside.sources c.self.inside.undo.items c.self.inside.redo.items c.self.inside.shown) (step.Edit c.args.file.now c.args.from c.args.to c.args.text.now) c.args.from c.args.to = subst (λ (s : State). CutsBadly s (step.Edit c.args.file.now c.args.from c.args.to c.args.text.now) c.args.from c.args.to) (sym c.self.view_is) bad in
    let can : CanBecome c.self.inside.sources c.in-Some.number (span_of c.args.from c.args.to) c.args.text.now c.in-Text.new = subst (IsSpliced c.self.inside.sources c.in-Some.number (span_of c.args.from c.args.to) c.args.text.now) c.in-Text.is (subst (λ (t : List ℕ). IsSpliced c.self.inside.sources c.in-Some.number (span_of c.args.from c.args.to) t c.in_ok-splice-in-Some.field-0) c.as_str-in-Some.ensures c.in_ok-splice-in-Some.ensures.ok) in
    absurd (cut_somewhere c.self.inside.sources c.self.inside.undo.items c.self.inside.redo.items c.self.inside.shown c.args.file.now c.args.from c.args.to c.args.text.now c.in-Some.number c.in-Some.ensures.valid.differ named c.in-Text.new can there)

pub invariant_of-self-in-Text : goal.invariant_of-self-in-Text
invariant_of-self-in-Text c =
    kept_changed c.self.inside.sources (put_back c.self.inside.sources c.in_ok-changes-in-Text.changes.items) c.change.new.sources c.change.new.readings c.self.inside.undo.items c.change.new.undo.items c.change.new.redo.items c.in_ok-change-in-Text.ensures.changed c.in_ok-change-in-Text.ensures.emptied c.self.invariant.undo c.in_ok-change-in-Text.ensures.readings

pub returns-in-None-clause-bad_span : goal.returns-in-None-clause-bad_span
returns-in-None-clause-bad_span c = λ bad.
    let there : CutsBadly (state_of c.self.inside.sources c.self.inside.undo.items c.self.inside.redo.items c.self.inside.shown) (step.Edit c.args.file.now c.args.from c.args.to c.args.text.now) c.args.from c.args.to = subst (λ (s : State). CutsBadly s (step.Edit c.args.file.now c.args.from c.args.to c.args.text.now) c.args.from c.args.to) (sym c.self.view_is) bad in
    let lacks : LacksFile c.self.inside.sources c.args.file.now = subst (LacksFile c.self.inside.sources) c.as_str.ensures c.in-None.ensures.found in
    absurd (cut_of_none (state_of c.self.inside.sources c.self.inside.undo.items c.self.inside.redo.items c.self.inside.shown) c.args.file.now c.args.from c.args.to c.args.text.now lacks there)

pub returns-in-BadSpan-clause-step : goal.returns-in-BadSpan-clause-step
returns-in-BadSpan-clause-step c =
    let named : HasName c.self.inside.sources c.in-Some.number c.args.file.now = subst (HasName c.self.inside.sources c.in-Some.number) c.as_str.ensures c.in-Some.ensures.found in
    let cannot : CanNotCut c.self.inside.sources c.in-Some.number (span_of c.args.from c.args.to) = subst (IsSpliced c.self.inside.sources c.in-Some.number (span_of c.args.from c.args.to) c.args.text.now) c.in-BadSpan.is (subst (λ (t : List ℕ). IsSpliced c.self.inside.sources c.in-Some.number (span_of c.args.from c.args.to) t c.in_ok-splice-in-Some.field-0) c.as_str-in-Some.ensures c.in_ok-splice-in-Some.ensures.ok) in (
      subst (λ (s : State). IsFirstRefusal s (step.Edit c.args.file.now c.args.from c.args.to c.args.text.now) (bad_span c.args.from c.args.to)) c.self.view_is
          (refused_cut c.self.inside.sources c.self.inside.undo.items c.self.inside.redo.items c.self.inside.shown c.args.file.now c.args.from c.args.to c.args.text.now c.in-Some.number c.in-Some.ensures.valid.differ named cannot),
      refl,
    )

pub returns-in-TooLong-clause-step : goal.returns-in-TooLong-clause-step
returns-in-TooLong-clause-step c =
    let named : HasName c.self.inside.sources c.in-Some.number c.args.file.now = subst (HasName c.self.inside.sources c.in-Some.number) c.as_str.ensures c.in-Some.ensures.found in
    let beyond : WouldBeTooLong c.self.inside.sources c.in-Some.number (span_of c.args.from c.args.to) c.args.text.now c.in-TooLong.len = subst (IsSpliced c.self.inside.sources c.in-Some.number (span_of c.args.from c.args.to) c.args.text.now) c.in-TooLong.is (subst (λ (t : List ℕ). IsSpliced c.self.inside.sources c.in-Some.number (span_of c.args.from c.args.to) t c.in_ok-splice-in-Some.field-0) c.as_str-in-Some.ensures c.in_ok-splice-in-Some.ensures.ok) in (
      subst (λ (s : State). IsFirstRefusal s (step.Edit c.args.file.now c.args.from c.args.to c.args.text.now) (too_long c.in-TooLong.len)) c.self.view_is
          (refused_length c.self.inside.sources c.self.inside.undo.items c.self.inside.redo.items c.self.inside.shown c.args.file.now c.args.from c.args.to c.args.text.now c.in-Some.number c.in-Some.ensures.valid.differ named c.in-TooLong.len beyond),
      refl,
    )

pub returns-in_ok-change-in-Text-clause-step : goal.returns-in_ok-change-in-Text-clause-step
returns-in_ok-change-in-Text-clause-step c =
    let named : HasName c.self.inside.sources c.in-Some.number c.args.file.now = subst (HasName c.self.inside.sources c.in-Some.number) c.as_str.ensures c.in-Some.ensures.found in
    let can : CanBecome c.self.inside.sources c.in-Some.number (span_of c.args.from c.args.to) c.args.text.now c.in-Text.new = subst (IsSpliced c.self.inside.sources c.in-Some.number (span_of c.args.from c.args.to) c.args.text.now) c.in-Text.is (subst (λ (t : List ℕ). IsSpliced c.self.inside.sources c.in-Some.number (span_of c.args.from c.args.to) t c.in_ok-splice-in-Some.field-0) c.as_str-in-Some.ensures c.in_ok-splice-in-Some.ensures.ok) in
    let changed : IsChanged c.self.inside.sources c.self.inside.undo.items (with_text c.self.inside.sources c.in-Some.number c.in-Text.new) c.change.new.sources c.change.new.undo.items = subst (λ (cs : List Change). IsChanged c.self.inside.sources c.self.inside.undo.items (put_back c.self.inside.sources cs) c.change.new.sources c.change.new.undo.items) c.in_ok-changes-in-Text.ensures c.in_ok-change-in-Text.ensures.changed in
    let now : State = state_of c.change.new.sources c.change.new.undo.items c.change.new.redo.items c.self.inside.shown in
    subst (λ (s : State). Steps s (step.Edit c.args.file.now c.args.from c.args.to c.args.text.now) edited now) c.self.view_is
    (edited_step c.self.inside.sources c.self.inside.undo.items c.self.inside.redo.items c.self.inside.shown c.args.file.now c.args.from c.args.to c.args.text.now c.in-Some.number c.in-Some.ensures.valid.differ named c.in-Text.new can c.change.new.sources c.change.new.undo.items c.change.new.redo.items changed c.in_ok-change-in-Text.ensures.emptied)
