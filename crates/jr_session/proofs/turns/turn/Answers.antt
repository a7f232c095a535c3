use Rattle.std.proofs.Common.{◌≡◌, ◌∷◌, ◌++◌, [], length, refl, ap, ◌∙◌, arith}
use Rattle.std.specs.Prelude.{Option, option_to_list}
use Rattle.jr_session.specs.declared.changes.Earlier.{Earlier}
use Rattle.jr_session.proofs.Turning.{last_count, turned_by}
use Rattle.jr_session.proofs.turns.turn.Goals as goal

pub exchange_all-requires-clause-room : goal.exchange_all-requires-clause-room
exchange_all-requires-clause-room c =
    let last : c.args.from.now.items ≡ c.pop.new.self.items ++ c.unwrap-step.result ∷ [] = c.pop.ensures.items ∙ ap (λ (o : Option Earlier). c.pop.new.self.items ++ option_to_list o) c.unwrap-step.ensures in
    let count = last_count c.args.from.now.items c.pop.new.self.items c.unwrap-step.result c.args.with.items c.requires.with last in
    let none = ap length c.requires.empty in
    let ok = c.args.had.ok.0 in
    let long = c.requires.long in
    omega (arith, count, none, ok, long)

pub exchange_all-requires-clause-space : goal.exchange_all-requires-clause-space
exchange_all-requires-clause-space c =
    let last : c.args.from.now.items ≡ c.pop.new.self.items ++ c.unwrap-step.result ∷ [] = c.pop.ensures.items ∙ ap (λ (o : Option Earlier). c.pop.new.self.items ++ option_to_list o) c.unwrap-step.ensures in
    let count = last_count c.args.from.now.items c.pop.new.self.items c.unwrap-step.result c.args.with.items c.requires.with last in
    let none = ap length c.requires.none in
    let ok = c.args.were.ok.0 in
    let long = c.requires.space in
    omega (arith, count, none, ok, long)

pub returns-clause-turn : goal.returns-clause-turn
returns-clause-turn c =
    let was : Earlier = record { changes = c.exchange_all.new.had } in
    let last : c.args.from.now.items ≡ c.pop.new.self.items ++ c.unwrap-step.result ∷ [] = c.pop.ensures.items ∙ ap (λ (o : Option Earlier). c.pop.new.self.items ++ option_to_list o) c.unwrap-step.ensures in
    let kept : c.push_reserved.new.self.items ≡ c.args.onto.now.items ++ was ∷ [] = c.push_reserved.ensures.items in
    turned_by c.args.sources.now c.exchange_all.new.sources c.args.from.now.items c.pop.new.self.items c.args.onto.now.items c.push_reserved.new.self.items c.unwrap-step.result was c.args.had.items c.exchange_all.new.had.items c.requires.empty c.exchange_all.ensures.changed refl last kept
