use Rattle.std.proofs.Common.{◌∷◌, ◌++◌, [], List, take, length, refl, sym, subst}
use Rattle.std.proofs.lemmas.Option.{slice_get_read}
use Rattle.jr_session.specs.declared.changes.Change.{Change}
use Rattle.jr_session.specs.Turns.{AreChangeReadings}
use Rattle.jr_session.proofs.Places.{taken_more}
use Rattle.jr_session.proofs.Turning.{more_readings}
use Rattle.jr_session.proofs.turns.readings_of.Goals as goal

pub loop-change-preserved : goal.loop-change-preserved
loop-change-preserved c =
    let there = slice_get_read c.args.changes.now (length c.args.changes.now) c.loop-change.change-index c.change-item.result refl c.loop-change-test.true c.change-item.is in
    subst (λ (cs : List Change). AreChangeReadings cs c.push.new.self.items) (sym (taken_more c.args.changes.now c.loop-change.change-index c.change-item.result there))
    (subst (AreChangeReadings (take c.loop-change.change-index c.args.changes.now ++ c.change-item.result ∷ [])) (sym c.in_ok-push.ensures.items)
    (more_readings (take c.loop-change.change-index c.args.changes.now) c.change-item.result c.loop-change.with.items c.in_ok-read.field-0 c.loop-change.invariant c.in_ok-read.ensures))
