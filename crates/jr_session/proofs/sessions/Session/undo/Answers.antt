use Rattle.std.proofs.Common.{◌≡◌, [], ap, subst, ◌∙◌}
use Rattle.jr_names.specs.declared.steps.Step.TheVariants as step
use Rattle.jr_names.specs.Replies.{undone}
use Rattle.jr_sources.specs.Sources.{texts_of}
use Rattle.jr_session.specs.States.{State}
use Rattle.jr_session.specs.Stepping.{Steps}
use Rattle.jr_session.proofs.Histories.{no_history}
use Rattle.jr_session.proofs.StateLaws.{state_of, undone_state, nothing_kept, kept_turned}
use Rattle.jr_session.proofs.SessionSteps.{undone_step}
use Rattle.jr_session.proofs.sessions.Session.undo.Goals as goal

pub returns-in_err-turned-clause-nothing : goal.returns-in_err-turned-clause-nothing
returns-in_err-turned-clause-nothing c = λ none.
    let empty : c.self.inside.undo.items ≡ [] = no_history (texts_of c.self.inside.sources) c.self.inside.undo.items (ap (λ (s : State). s.undo) c.self.view_is ∙ none) in
    let e = c.in_err-turned.ensures.empty empty in
    cc

pub invariant_of-self-2 : goal.invariant_of-self-2
invariant_of-self-2 c =
    let turn = c.in_ok-turned.ensures.turn c.if-not-turned.false in
    let changes = kept_turned c.self.inside.sources c.turn_back.new.sources c.self.inside.undo.items c.turn_back.new.from.items c.self.inside.redo.items c.turn_back.new.onto.items turn c.self.invariant.undo c.self.invariant.redo in
    record { readings = c.in_ok-turned.ensures.readings; undo = changes.0; redo = changes.1; analysed = nothing_kept c.turn_back.new.sources }

pub returns-clause-step : goal.returns-clause-step
returns-clause-step c =
    let turn = c.in_ok-turned.ensures.turn c.if-not-turned.false in
    let now : State = state_of c.turn_back.new.sources c.turn_back.new.from.items c.turn_back.new.onto.items c.self.inside.shown in
    subst (λ (s : State). Steps s step.Undo undone now) c.self.view_is
    (undone_step (state_of c.self.inside.sources c.self.inside.undo.items c.self.inside.redo.items c.self.inside.shown) now
    (undone_state c.self.inside.sources c.turn_back.new.sources c.self.inside.undo.items c.turn_back.new.from.items c.self.inside.redo.items c.turn_back.new.onto.items c.self.inside.shown turn))
