use Rattle.std.proofs.Common.{◌≡◌, ◌∷◌, ◌++◌, [], List, length, refl, sym, ap, subst, ◌∙◌}
use Rattle.jr_session.specs.declared.changes.Earlier.{Earlier}
use Rattle.jr_session.specs.declared.refactorings.Changed.TheVariants as changed
use Rattle.jr_session.specs.declared.tries.Tried.TheVariants as tries
use Rattle.jr_sources.specs.Analysed.{IsKeptAnalysis}
use Rattle.jr_session.specs.Changes.{put_back, AreOfFiles}
use Rattle.jr_session.specs.TableTells.{TellsTable}
use Rattle.jr_session.specs.Refactoring.{IsChangedBy}
use Rattle.jr_session.specs.States.{State}
use Rattle.jr_session.specs.Trying.{IsTried}
use Rattle.jr_session.proofs.Refactored.{tried_wrong, tried_crossed, tried_sound, tried_kept}
use Rattle.jr_session.proofs.StateLaws.{state_of}
use Rattle.jr_session.proofs.sessions.Session.change_all.Goals as goal

pub sources_are_program-requires-clause-analysis : goal.sources_are_program-requires-clause-analysis
sources_are_program-requires-clause-analysis g c =
    let tried : IsTried c.self.inside.sources c.args.texts.changes.items c.args.texts.may_stay c.try_texts.new.sources (tries.Sound c.in-Sound.analysis c.in-Sound.had) = subst (IsTried c.self.inside.sources c.args.texts.changes.items c.args.texts.may_stay c.try_texts.new.sources) c.in-Sound.is c.in_ok-fault.ensures.tried in
    tried.3

pub sources_are_program-requires-clause-sound : goal.sources_are_program-requires-clause-sound
sources_are_program-requires-clause-sound g c =
    let tried : IsTried c.self.inside.sources c.args.texts.changes.items c.args.texts.may_stay c.try_texts.new.sources (tries.Sound c.in-Sound.analysis c.in-Sound.had) = subst (IsTried c.self.inside.sources c.args.texts.changes.items c.args.texts.may_stay c.try_texts.new.sources) c.in-Sound.is c.in_ok-fault.ensures.tried in
    tried.4

pub invariant_of-self-in-Sound : goal.invariant_of-self-in-Sound
invariant_of-self-in-Sound g c =
    let step : Earlier = record { changes = c.in-Sound.had } in
    let tried : IsTried c.self.inside.sources c.args.texts.changes.items c.args.texts.may_stay c.try_texts.new.sources (tries.Sound c.in-Sound.analysis c.in-Sound.had) = subst (IsTried c.self.inside.sources c.args.texts.changes.items c.args.texts.may_stay c.try_texts.new.sources) c.in-Sound.is c.in_ok-fault.ensures.tried in
    let kept : c.push_reserved.new.self.items ≡ c.self.inside.undo.items ++ step ∷ [] = c.push_reserved.ensures.items ∙ ap (λ (es : List Earlier). es ++ step ∷ []) c.reserve.ensures.items in
    tried_kept c.self.inside.sources c.try_texts.new.sources c.args.texts.changes.items c.args.texts.may_stay c.self.inside.undo.items c.push_reserved.new.self.items c.self.inside.redo.items c.clear.new.self.items c.self.inside.shown c.in-Sound.analysis step tried kept c.clear.ensures.items c.try_texts.new.readings c.try_texts.ensures.readings c.self.invariant.undo

pub returns-in-Wrong-clause-step : goal.returns-in-Wrong-clause-step
returns-in-Wrong-clause-step g c =
    let tried : IsTried c.self.inside.sources c.args.texts.changes.items c.args.texts.may_stay c.try_texts.new.sources (tries.Wrong c.in-Wrong.fault) = subst (IsTried c.self.inside.sources c.args.texts.changes.items c.args.texts.may_stay c.try_texts.new.sources) c.in-Wrong.is c.in_ok-fault.ensures.tried in
    subst (λ (s : State). IsChangedBy s (put_back s.files c.args.texts.changes.items) c.args.texts.may_stay (changed.Wrong c.in-Wrong.fault) (state_of c.try_texts.new.sources c.reserve.new.self.items c.self.inside.redo.items c.self.inside.shown)) c.self.view_is
    (tried_wrong c.self.inside.sources c.try_texts.new.sources c.args.texts.changes.items c.args.texts.may_stay c.self.inside.undo.items c.reserve.new.self.items c.self.inside.redo.items c.self.inside.redo.items c.self.inside.shown c.in-Wrong.fault tried c.reserve.ensures.items refl)

pub returns-in-Crossed-clause-step : goal.returns-in-Crossed-clause-step
returns-in-Crossed-clause-step g c =
    let tried : IsTried c.self.inside.sources c.args.texts.changes.items c.args.texts.may_stay c.try_texts.new.sources tries.Crossed = subst (IsTried c.self.inside.sources c.args.texts.changes.items c.args.texts.may_stay c.try_texts.new.sources) c.in-Crossed.is c.in_ok-fault.ensures.tried in
    subst (λ (s : State). IsChangedBy s (put_back s.files c.args.texts.changes.items) c.args.texts.may_stay changed.Crossed (state_of c.try_texts.new.sources c.reserve.new.self.items c.self.inside.redo.items c.self.inside.shown)) c.self.view_is
    (tried_crossed c.self.inside.sources c.try_texts.new.sources c.args.texts.changes.items c.args.texts.may_stay c.self.inside.undo.items c.reserve.new.self.items c.self.inside.redo.items c.self.inside.redo.items c.self.inside.shown tried c.reserve.ensures.items refl)

pub returns-in-Sound-clause-step : goal.returns-in-Sound-clause-step
returns-in-Sound-clause-step g c =
    let step : Earlier = record { changes = c.in-Sound.had } in
    let tried : IsTried c.self.inside.sources c.args.texts.changes.items c.args.texts.may_stay c.try_texts.new.sources (tries.Sound c.in-Sound.analysis c.in-Sound.had) = subst (IsTried c.self.inside.sources c.args.texts.changes.items c.args.texts.may_stay c.try_texts.new.sources) c.in-Sound.is c.in_ok-fault.ensures.tried in
    let kept : c.push_reserved.new.self.items ≡ c.self.inside.undo.items ++ step ∷ [] = c.push_reserved.ensures.items ∙ ap (λ (es : List Earlier). es ++ step ∷ []) c.reserve.ensures.items in
    let now : State = state_of c.try_texts.new.sources c.push_reserved.new.self.items c.clear.new.self.items c.self.inside.shown in
    subst (λ (s : State). IsChangedBy s (put_back s.files c.args.texts.changes.items) c.args.texts.may_stay changed.Done now) c.self.view_is
    (tried_sound c.self.inside.sources c.try_texts.new.sources c.args.texts.changes.items c.args.texts.may_stay c.self.inside.undo.items c.push_reserved.new.self.items c.self.inside.redo.items c.clear.new.self.items c.self.inside.shown c.in-Sound.analysis step tried kept c.clear.ensures.items c.text_has_one_reading.ensures c.sources_are_program.ensures)

pub try_texts-requires-clause-files : goal.try_texts-requires-clause-files
try_texts-requires-clause-files g c = subst (λ (s : State). AreOfFiles (length s.files) c.args.texts.changes.items) (sym c.self.view_is) c.requires.files

pub try_texts-requires-clause-analysed : goal.try_texts-requires-clause-analysed
try_texts-requires-clause-analysed g c = subst (λ (s : State). IsKeptAnalysis s.files c.args.analysed.now) (sym c.self.view_is) c.requires.analysed

pub try_texts-requires-clause-told : goal.try_texts-requires-clause-told
try_texts-requires-clause-told g c = subst (λ (s : State). TellsTable (put_back s.files c.args.texts.changes.items) c.args.analysed.now c.args.after.now) (sym c.self.view_is) c.requires.told
