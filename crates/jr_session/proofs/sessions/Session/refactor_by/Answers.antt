use Rattle.std.proofs.Common.{sym, subst}
use Rattle.std.specs.Prelude.{IfOk, Option, option_map}
use Rattle.std.proofs.lemmas.Result.{IfOk-weaker}
use Rattle.jr_names.specs.RefusalView.{refusal_of}
use Rattle.jr_names.specs.ReplyView.{reply_of}
use Rattle.jr_names.specs.Replies.{refused}
use Rattle.jr_names.specs.SiteView.{pair_of}
use Rattle.jr_sources.specs.declared.analyses.Analysis.{Analysis}
use Rattle.jr_sources.specs.Analysed.{IsSourceWrong, IsKeptAnalysis}
use Rattle.jr_session.specs.declared.plans.Planned.TheVariants as plans
use Rattle.jr_session.specs.TableTells.{PlanTells, TellsTable}
use Rattle.jr_session.specs.NewTexts.{with_edits}
use Rattle.jr_session.specs.Planning.{IsPlannedSo, IsNotPlanned, ArePlanned}
use Rattle.jr_session.specs.RequestView.{AsksFor, ask_of, step_of}
use Rattle.jr_session.specs.States.{State}
use Rattle.jr_session.specs.Stepping.{Steps}
use Rattle.jr_session.specs.Work.{IsWithinWork}
use Rattle.jr_session.proofs.EditLaws.{name_of_file}
use Rattle.jr_session.proofs.RequestSteps.{steps_by, works_by, reads_by, fit_planned, analysed_work, wrong_step, refused_step, refactored_step, refactored_work}
use Rattle.jr_session.proofs.SessionSteps.{number_within}
use Rattle.jr_session.proofs.StateLaws.{state_of}
use Rattle.jr_session.proofs.sessions.Session.refactor_by.Goals as goal

pub returns-in_err-planned-clause-work : goal.returns-in_err-planned-clause-work
returns-in_err-planned-clause-work g c = subst (λ (s : State). IsWithinWork s (step_of c.args.request.now) c.args.steps.now c.plan_refactoring.new.steps) c.self.view_is
    (let now : State = state_of c.self.inside.sources c.self.inside.undo.items c.self.inside.redo.items c.self.inside.shown in
    works_by now c.args.request.now.file.now c.args.request.now.asked c.args.steps.now c.plan_refactoring.new.steps
    (analysed_work now (ask_of c.args.request.now) c.args.steps.now c.plan_refactoring.new.steps c.plan_refactoring.ensures.cost))

pub source_error-requires : goal.source_error-requires
source_error-requires g c =
    let is : IsSourceWrong c.self.inside.sources c.in-Wrong.fault = subst (IsPlannedSo c.self.inside.sources (ask_of c.args.request.now) c.args.request.now.number) c.in-Wrong.is c.in_ok-planned.ensures.planned in
    number_within c.self.inside.sources c.in-Wrong.fault.file is.name is.named

pub refactor-reply-requires-clause-fit : goal.refactor-reply-requires-clause-fit
refactor-reply-requires-clause-fit g c =
    let asks : AsksFor (state_of c.self.inside.sources c.self.inside.undo.items c.self.inside.redo.items c.self.inside.shown) c.args.request.now = subst (λ (s : State). AsksFor s c.args.request.now) (sym c.self.view_is) c.requires.asks in
    let are : ArePlanned c.self.inside.sources (ask_of c.args.request.now) c.args.request.now.number c.in-Edits.edits c.in-Edits.respelled (option_map pair_of c.in-Edits.lost) = subst (IsPlannedSo c.self.inside.sources (ask_of c.args.request.now) c.args.request.now.number) c.in-Edits.is c.in_ok-planned.ensures.planned in
    fit_planned c.self.inside.sources (ask_of c.args.request.now) (reads_by c.plans_read.ensures c.args.request.now.file.now c.args.request.now.asked) asks.1.name c.args.request.now.number c.in-Edits.edits c.in-Edits.respelled (option_map pair_of c.in-Edits.lost) are
    (number_within c.self.inside.sources c.args.request.now.number (ask_of c.args.request.now).file (name_of_file c.self.inside.sources c.args.request.now.number (ask_of c.args.request.now).file asks.0 asks.1.stands))

pub returns-in-Wrong-clause-step : goal.returns-in-Wrong-clause-step
returns-in-Wrong-clause-step g c =
    let now : State = state_of c.self.inside.sources c.self.inside.undo.items c.self.inside.redo.items c.self.inside.shown in
    let asks : AsksFor now c.args.request.now = subst (λ (s : State). AsksFor s c.args.request.now) (sym c.self.view_is) c.requires.asks in
    let is : IsSourceWrong c.self.inside.sources c.in-Wrong.fault = subst (IsPlannedSo c.self.inside.sources (ask_of c.args.request.now) c.args.request.now.number) c.in-Wrong.is c.in_ok-planned.ensures.planned in
    subst (λ (s : State). IfOk c.source_error.result (λ reply. Steps s (step_of c.args.request.now) (reply_of reply) now)) c.self.view_is
    (IfOk-weaker c.source_error.result _ _ (λ reply h. steps_by now c.args.request.now.file.now c.args.request.now.asked (reply_of reply) now (wrong_step now (ask_of c.args.request.now) c.args.request.now.number asks c.in-Wrong.fault is h.0 h.1 (reply_of reply) h.2)) c.source_error.ensures)

pub returns-in-Wrong-clause-work : goal.returns-in-Wrong-clause-work
returns-in-Wrong-clause-work g c = subst (λ (s : State). IsWithinWork s (step_of c.args.request.now) c.args.steps.now c.plan_refactoring.new.steps) c.self.view_is
    (let now : State = state_of c.self.inside.sources c.self.inside.undo.items c.self.inside.redo.items c.self.inside.shown in
    works_by now c.args.request.now.file.now c.args.request.now.asked c.args.steps.now c.plan_refactoring.new.steps
    (analysed_work now (ask_of c.args.request.now) c.args.steps.now c.plan_refactoring.new.steps c.plan_refactoring.ensures.cost))

pub returns-in-Refused-clause-step : goal.returns-in-Refused-clause-step
returns-in-Refused-clause-step g c =
    let now : State = state_of c.self.inside.sources c.self.inside.undo.items c.self.inside.redo.items c.self.inside.shown in
    let asks : AsksFor now c.args.request.now = subst (λ (s : State). AsksFor s c.args.request.now) (sym c.self.view_is) c.requires.asks in
    let is : IsNotPlanned c.self.inside.sources (ask_of c.args.request.now) c.args.request.now.number (refusal_of c.in-Refused.refusal) = subst (IsPlannedSo c.self.inside.sources (ask_of c.args.request.now) c.args.request.now.number) c.in-Refused.is c.in_ok-planned.ensures.planned in
    subst (λ (s : State). Steps s (step_of c.args.request.now) (refused (refusal_of c.in-Refused.refusal)) now) c.self.view_is
    (steps_by now c.args.request.now.file.now c.args.request.now.asked (refused (refusal_of c.in-Refused.refusal)) now (refused_step now (ask_of c.args.request.now) c.args.request.now.number asks (refusal_of c.in-Refused.refusal) is))

pub returns-in-Refused-clause-work : goal.returns-in-Refused-clause-work
returns-in-Refused-clause-work g c = subst (λ (s : State). IsWithinWork s (step_of c.args.request.now) c.args.steps.now c.plan_refactoring.new.steps) c.self.view_is
    (let now : State = state_of c.self.inside.sources c.self.inside.undo.items c.self.inside.redo.items c.self.inside.shown in
    works_by now c.args.request.now.file.now c.args.request.now.asked c.args.steps.now c.plan_refactoring.new.steps
    (analysed_work now (ask_of c.args.request.now) c.args.steps.now c.plan_refactoring.new.steps c.plan_refactoring.ensures.cost))

pub returns-in-Edits-clause-step : goal.returns-in-Edits-clause-step
returns-in-Edits-clause-step g c =
    let now : State = state_of c.self.inside.sources c.self.inside.undo.items c.self.inside.redo.items c.self.inside.shown in
    let asks : AsksFor now c.args.request.now = subst (λ (s : State). AsksFor s c.args.request.now) (sym c.self.view_is) c.requires.asks in
    let are : ArePlanned c.self.inside.sources (ask_of c.args.request.now) c.args.request.now.number c.in-Edits.edits c.in-Edits.respelled (option_map pair_of c.in-Edits.lost) = subst (IsPlannedSo c.self.inside.sources (ask_of c.args.request.now) c.args.request.now.number) c.in-Edits.is c.in_ok-planned.ensures.planned in
    IfOk-weaker c.refactor-reply.result _ _ (λ reply h.
    subst (λ (s : State). Steps s (step_of c.args.request.now) (reply_of reply) c.refactor-reply.new.self) c.self.view_is
    (steps_by now c.args.request.now.file.now c.args.request.now.asked (reply_of reply) c.refactor-reply.new.self (refactored_step now (ask_of c.args.request.now) c.args.request.now.number asks c.in-Edits.edits c.in-Edits.respelled (option_map pair_of c.in-Edits.lost) are (reply_of reply) c.refactor-reply.new.self h))) c.refactor-reply.ensures.step

pub returns-in-Edits-clause-work : goal.returns-in-Edits-clause-work
returns-in-Edits-clause-work g c =
    let now : State = state_of c.self.inside.sources c.self.inside.undo.items c.self.inside.redo.items c.self.inside.shown in
    let asks : AsksFor now c.args.request.now = subst (λ (s : State). AsksFor s c.args.request.now) (sym c.self.view_is) c.requires.asks in
    let are : ArePlanned c.self.inside.sources (ask_of c.args.request.now) c.args.request.now.number c.in-Edits.edits c.in-Edits.respelled (option_map pair_of c.in-Edits.lost) = subst (IsPlannedSo c.self.inside.sources (ask_of c.args.request.now) c.args.request.now.number) c.in-Edits.is c.in_ok-planned.ensures.planned in
    subst (λ (s : State). IsWithinWork s (step_of c.args.request.now) c.args.steps.now c.refactor-reply.new.steps) c.self.view_is
    (works_by now c.args.request.now.file.now c.args.request.now.asked c.args.steps.now c.refactor-reply.new.steps (refactored_work now (ask_of c.args.request.now) c.args.request.now.number asks c.in-Edits.edits c.in-Edits.respelled (option_map pair_of c.in-Edits.lost) are c.text_has_one_reading.ensures c.args.steps.now c.plan_refactoring.new.steps c.refactor-reply.new.steps c.plan_refactoring.ensures.cost c.refactor-reply.ensures.work))

pub refactor-reply-requires-clause-told : goal.refactor-reply-requires-clause-told
refactor-reply-requires-clause-told g c =
    let told : PlanTells c.self.inside.sources c.plan_refactoring.new.kept (plans.Edits c.in-Edits.edits c.in-Edits.respelled c.in-Edits.lost) c.plan_refactoring.new.after = subst (λ r. PlanTells c.self.inside.sources c.plan_refactoring.new.kept r c.plan_refactoring.new.after) c.in-Edits.is c.in_ok-planned.ensures.told in
    subst (λ (o : Option Analysis). TellsTable (with_edits c.self.inside.sources c.in-Edits.edits) o c.plan_refactoring.new.after) (sym c.take-analysed.ensures.value) told

pub refactor-reply-requires-clause-analysed : goal.refactor-reply-requires-clause-analysed
refactor-reply-requires-clause-analysed g c = subst (λ (o : Option Analysis). IsKeptAnalysis c.self.inside.sources o) (sym c.take-analysed.ensures.value) c.plan_refactoring.ensures.kept
