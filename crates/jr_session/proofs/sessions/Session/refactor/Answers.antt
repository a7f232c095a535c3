use Rattle.std.proofs.Common.{List, sym, subst}
use Rattle.std.specs.Prelude.{option_map}
use Rattle.std.proofs.lemmas.Result.{IfOk-weaker}
use Rattle.jr_names.specs.SiteView.{pair_of}
use Rattle.jr_names.specs.ReplyView.{reply_of}
use Rattle.jr_session.specs.declared.made.Made.TheVariants as makes
use Rattle.jr_names.specs.Refusals.{too_long}
use Rattle.jr_names.specs.Replies.{refused}
use Rattle.jr_sources.specs.Sources.{Source}
use Rattle.jr_session.specs.Making.{IsMade}
use Rattle.jr_session.specs.Refactoring.{IsRefactoredBy}
use Rattle.jr_session.specs.TableTells.{TellsTable}
use Rattle.jr_session.specs.States.{State}
use Rattle.jr_session.proofs.Refactored.{made_long, made_tried}
use Rattle.jr_session.proofs.StateLaws.{state_of}
use Rattle.jr_session.proofs.sessions.Session.refactor.Goals as goal

pub returns-in-TooLong-clause-step : goal.returns-in-TooLong-clause-step
returns-in-TooLong-clause-step g c =
    let made : IsMade c.self.inside.sources c.args.planned.now.edits.now (makes.TooLong c.in-TooLong.len) = subst (λ es. IsMade c.self.inside.sources es (makes.TooLong c.in-TooLong.len)) c.as_slice.ensures (subst (IsMade c.self.inside.sources c.as_slice.result.now) c.in-TooLong.is c.in_ok-len.ensures) in
    let now : State = state_of c.self.inside.sources c.self.inside.undo.items c.self.inside.redo.items c.self.inside.shown in
    subst (λ (s : State). IsRefactoredBy s c.args.planned.now.edits.now c.args.planned.now.respelled (option_map pair_of c.args.lost.now) (refused (too_long c.in-TooLong.len)) now) c.self.view_is (made_long now c.args.planned.now.edits.now c.args.planned.now.respelled (option_map pair_of c.args.lost.now) c.in-TooLong.len made)

pub returns-in-Changes-clause-step : goal.returns-in-Changes-clause-step
returns-in-Changes-clause-step g c =
    let inside : IsMade c.self.inside.sources c.args.planned.now.edits.now (makes.Changes c.in-Changes.changes c.in-Changes.names) = subst (λ es. IsMade c.self.inside.sources es (makes.Changes c.in-Changes.changes c.in-Changes.names)) c.as_slice.ensures (subst (IsMade c.self.inside.sources c.as_slice.result.now) c.in-Changes.is c.in_ok-len.ensures) in
    let made : IsMade c.args.self.now.files c.args.planned.now.edits.now (makes.Changes c.in-Changes.changes c.in-Changes.names) = subst (λ (s : State). IsMade s.files c.args.planned.now.edits.now (makes.Changes c.in-Changes.changes c.in-Changes.names)) c.self.view_is inside in
    IfOk-weaker c.change_named.result _ _ (λ reply h. made_tried c.args.self.now c.args.planned.now.edits.now c.in-Changes.changes.items c.in-Changes.names.items c.args.planned.now.respelled made.0 made.1 (record { within = made.3; together = made.4 }) (option_map pair_of c.args.lost.now) (reply_of reply) c.change_named.new.self h) c.change_named.ensures.step

pub change_named-requires-clause-told : goal.change_named-requires-clause-told
change_named-requires-clause-told g c =
    let inside : IsMade c.self.inside.sources c.args.planned.now.edits.now (makes.Changes c.in-Changes.changes c.in-Changes.names) = subst (λ es. IsMade c.self.inside.sources es (makes.Changes c.in-Changes.changes c.in-Changes.names)) c.as_slice.ensures (subst (IsMade c.self.inside.sources c.as_slice.result.now) c.in-Changes.is c.in_ok-len.ensures) in
    let made : IsMade c.args.self.now.files c.args.planned.now.edits.now (makes.Changes c.in-Changes.changes c.in-Changes.names) = subst (λ (s : State). IsMade s.files c.args.planned.now.edits.now (makes.Changes c.in-Changes.changes c.in-Changes.names)) c.self.view_is inside in
    subst (λ (ss : List Source). TellsTable ss c.args.analysed.now c.args.after.now) (sym made.0) c.requires.told
