use Rattle.std.proofs.Common.{take}
use Rattle.jr_session.specs.Turns.{AreChangeReadings}
use Rattle.jr_session.proofs.turns.readings_of.Given as goal

abbrev pub invariant-loop-change : goal.invariant-loop-change
invariant-loop-change l = AreChangeReadings (take l.change-index l.changes) l.with.items
