use Rattle.std.proofs.Common.{ℕ, List, take, sym, subst}
use Rattle.jr_sources.specs.Sources.{texts_of}
use Rattle.jr_sources.specs.KeptReadings.{AreReadings}
use Rattle.jr_session.proofs.Places.{taken_more}
use Rattle.jr_session.proofs.KeptLaws.{read_more}
use Rattle.jr_session.proofs.begins.readings_of.Goals as goal

pub loop-number-preserved : goal.loop-number-preserved
loop-number-preserved c =
    subst (λ (ts : List (List ℕ)). AreReadings ts c.push.new.self) (sym (taken_more (texts_of c.args.sources.now) c.loop-number.number c.text.result.now c.text.ensures))
    (read_more (take c.loop-number.number (texts_of c.args.sources.now)) c.loop-number.readings c.push.new.self c.text.result.now c.in_ok-read.field-0.unit c.in_ok-read.field-0.word c.in_ok-read.field-0.tokens c.in_ok-read.field-0.fault c.in_ok-read.ensures c.loop-number.invariant c.in_ok-push.ensures.units c.in_ok-push.ensures.words c.in_ok-push.ensures.tokens c.in_ok-push.ensures.faults)
