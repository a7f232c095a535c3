use Rattle.std.proofs.Common.{◌≡◌, ◌∷◌, ◌++◌, [], List, ap, subst, ◌∙◌, arith}
use Rattle.std.specs.Prelude.{Option, vec_capacity, option_to_list}
use Rattle.jr_sources.specs.declared.readings.Reading.{Reading}
use Rattle.jr_session.specs.declared.changes.Change.{Change}
use Rattle.jr_session.specs.Turns.{AreChangeReadings}
use Rattle.jr_session.proofs.Exchanging.{begin_way, step_way}
use Rattle.jr_session.proofs.Turning.{some_reading, split_readings}
use Rattle.jr_session.proofs.turns.exchange_all.Goals as goal

pub loop-change-init : goal.loop-change-init
loop-change-init c =
    let had = c.args.had.now.ok.0 in
    let were = c.args.were.now.ok.0 in
    let room = c.requires.room in
    let space = c.requires.space in
    begin_way c.args.sources.now c.args.changes.items c.args.had.now.items c.args.readings.now c.args.with.items c.args.were.now.items (vec_capacity c.args.had.now) (vec_capacity c.args.were.now) c.requires.files (omega (arith, had, room)) (omega (arith, were, space)) c.requires.readings c.requires.with c.requires.were

pub unwrap-reading-requires : goal.unwrap-reading-requires
unwrap-reading-requires c =
    let left : c.loop-change.changes.items ≡ c.pop.new.self.items ++ c.in-Some.change ∷ [] = c.in-Some.ensures.items in
    let some = some_reading c.pop.new.self.items c.in-Some.change c.loop-change.with.items (subst (λ (cs : List Change). AreChangeReadings cs c.loop-change.with.items) left c.loop-change.invariant.reads) in
    let ok = c.loop-change.with.ok.0 in
    c.pop-in-Some.ensures.variant.1 (omega (arith, some, ok))

pub exchange-requires-clause-reading : goal.exchange-requires-clause-reading
exchange-requires-clause-reading c =
    let left : c.loop-change.changes.items ≡ c.pop.new.self.items ++ c.in-Some.change ∷ [] = c.in-Some.ensures.items in
    let last : c.loop-change.with.items ≡ c.pop-in-Some.new.self.items ++ c.unwrap-reading.result ∷ [] = c.pop-in-Some.ensures.items ∙ ap (λ (o : Option Reading). c.pop-in-Some.new.self.items ++ option_to_list o) c.unwrap-reading.ensures in
    let reads : AreChangeReadings (c.pop.new.self.items ++ c.in-Some.change ∷ []) (c.pop-in-Some.new.self.items ++ c.unwrap-reading.result ∷ []) = subst (λ (cs : List Change). AreChangeReadings cs (c.pop-in-Some.new.self.items ++ c.unwrap-reading.result ∷ [])) left (subst (λ (rs : List Reading). AreChangeReadings c.loop-change.changes.items rs) last c.loop-change.invariant.reads) in
    (split_readings c.pop.new.self.items c.in-Some.change c.pop-in-Some.new.self.items c.unwrap-reading.result reads).1

pub loop-change-preserved : goal.loop-change-preserved
loop-change-preserved c =
    let left : c.loop-change.changes.items ≡ c.pop.new.self.items ++ c.in-Some.change ∷ [] = c.in-Some.ensures.items in
    let last : c.loop-change.with.items ≡ c.pop-in-Some.new.self.items ++ c.unwrap-reading.result ∷ [] = c.pop-in-Some.ensures.items ∙ ap (λ (o : Option Reading). c.pop-in-Some.new.self.items ++ option_to_list o) c.unwrap-reading.ensures in
    let reads : AreChangeReadings (c.pop.new.self.items ++ c.in-Some.change ∷ []) (c.pop-in-Some.new.self.items ++ c.unwrap-reading.result ∷ []) = subst (λ (cs : List Change). AreChangeReadings cs (c.pop-in-Some.new.self.items ++ c.unwrap-reading.result ∷ [])) left (subst (λ (rs : List Reading). AreChangeReadings c.loop-change.changes.items rs) last c.loop-change.invariant.reads) in
    step_way c.args.sources.now c.args.changes.items c.args.had.now.items c.loop-change.sources c.exchange.new.sources c.loop-change.readings c.exchange.new.readings c.loop-change.changes.items c.pop.new.self.items c.loop-change.with.items c.pop-in-Some.new.self.items c.loop-change.had.items c.exchange.new.had.items c.loop-change.were.items c.exchange.new.were.items
    (vec_capacity c.loop-change.had) (vec_capacity c.exchange.new.had) (vec_capacity c.loop-change.were) (vec_capacity c.exchange.new.were) c.in-Some.change
    c.exchange.ensures.room c.exchange.ensures.space left (split_readings c.pop.new.self.items c.in-Some.change c.pop-in-Some.new.self.items c.unwrap-reading.result reads).0 c.exchange.ensures.changed c.exchange.ensures.readings c.exchange.ensures.were c.loop-change.invariant
