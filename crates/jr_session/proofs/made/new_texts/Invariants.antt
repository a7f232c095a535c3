use Rattle.jr_session.specs.Making.{AreMadeUntil}
use Rattle.jr_session.proofs.made.new_texts.Given as goal

abbrev pub invariant-loop-number : goal.invariant-loop-number
invariant-loop-number l = AreMadeUntil l.sources l.edits l.number l.changes.items l.names.items l.total
