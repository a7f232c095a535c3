use Rattle.std.proofs.Common.{◌≡◌, ◌∷◌, ◌++◌, [], ℕ, List, set, sym, ap, subst, ◌∙◌}
use Rattle.jr_sources.specs.Sources.{texts_of}
use Rattle.jr_sources.specs.KeptReadings.{AreReadings}
use Rattle.jr_sources.specs.declared.readings.Reading.{Reading}
use Rattle.jr_sources.proofs.SourceLaws.{texts-with_text}
use Rattle.jr_session.specs.declared.changes.Change.{Change}
use Rattle.jr_session.specs.Turns.{AreChangeReadings}
use Rattle.jr_session.proofs.Exchanging.{one_exchanged}
use Rattle.jr_session.proofs.KeptLaws.{read_anew}
use Rattle.jr_session.proofs.Turning.{more_readings}
use Rattle.jr_session.proofs.turns.exchange.Goals as goal

pub returns-clause-changed : goal.returns-clause-changed
returns-clause-changed c =
    one_exchanged c.args.sources.now c.exchange-text.new.self c.args.change c.exchange-text.result c.args.had.now.items c.push_reserved.new.self.items c.exchange-text.ensures.becomes c.exchange-text.ensures.had c.requires.number c.push_reserved.ensures.items

pub returns-clause-readings : goal.returns-clause-readings
returns-clause-readings c =
    let texts : texts_of c.exchange-text.new.self ≡ set (texts_of c.args.sources.now) c.args.change.file c.args.change.text = ap texts_of c.exchange-text.ensures.becomes ∙ texts-with_text c.args.sources.now c.args.change.file c.args.change.text in
    subst (λ (ts : List (List ℕ)). AreReadings ts c.exchange-was.new.self) (sym texts)
    (read_anew (texts_of c.args.sources.now) c.args.readings.now c.exchange-was.new.self c.args.change.text c.args.reading.unit c.args.reading.word c.args.reading.tokens c.args.reading.fault c.requires.reading c.args.change.file c.requires.readings c.exchange-was.ensures.units c.exchange-was.ensures.words c.exchange-was.ensures.tokens c.exchange-was.ensures.faults)

pub returns-clause-were : goal.returns-clause-were
returns-clause-were c =
    let was : Change = record { file = c.args.change.file; text = c.exchange-text.result } in
    let reads = c.requires.readings.each c.args.change.file c.exchange-text.result c.exchange-was.result.unit c.exchange-was.result.word c.exchange-was.result.tokens c.exchange-was.result.fault c.exchange-text.ensures.had c.exchange-was.ensures.unit c.exchange-was.ensures.word c.exchange-was.ensures.items c.exchange-was.ensures.fault in
    subst (λ (cs : List Change). AreChangeReadings cs c.push_reserved-2.new.self.items) (sym c.push_reserved.ensures.items)
    (subst (λ (rs : List Reading). AreChangeReadings (c.args.had.now.items ++ was ∷ []) rs) (sym c.push_reserved-2.ensures.items)
    (more_readings c.args.had.now.items was c.args.were.now.items c.exchange-was.result c.requires.were reads))
