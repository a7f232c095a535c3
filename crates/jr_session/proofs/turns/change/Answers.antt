use Rattle.std.proofs.Common.{◌≡◌, ◌∷◌, ◌++◌, [], List, refl, ap, ◌∙◌}
use Rattle.jr_session.specs.declared.changes.Earlier.{Earlier}
use Rattle.jr_session.proofs.Turning.{changed_by}
use Rattle.jr_session.proofs.turns.change.Goals as goal

pub returns-clause-changed : goal.returns-clause-changed
returns-clause-changed c =
    let was : Earlier = record { changes = c.exchange_all.new.had } in
    let kept : c.push_reserved.new.self.items ≡ c.args.undo.now.items ++ was ∷ [] = c.push_reserved.ensures.items ∙ ap (λ (es : List Earlier). es ++ was ∷ []) c.reserve.ensures.items in
    changed_by c.args.sources.now c.exchange_all.new.sources c.args.changes.items c.in_ok-had.had.items c.exchange_all.new.had.items c.in_ok-had.ensures.items c.exchange_all.ensures.changed was refl c.args.undo.now.items c.push_reserved.new.self.items kept
