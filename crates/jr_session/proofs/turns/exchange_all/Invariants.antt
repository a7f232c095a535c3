use Rattle.std.proofs.Common.{length}
use Rattle.std.specs.Prelude.{vec_capacity}
use Rattle.jr_session.proofs.Exchanging.{IsUnderWay}
use Rattle.jr_session.proofs.turns.exchange_all.Given as goal

abbrev pub invariant-loop-change : goal.invariant-loop-change
invariant-loop-change l = IsUnderWay l.fn.sources l.fn.changes.items l.fn.had.items l.sources l.readings l.changes.items l.with.items l.had.items l.were.items (vec_capacity l.had) (vec_capacity l.were)

abbrev pub decreases-loop-change : goal.decreases-loop-change
decreases-loop-change l = length l.changes.items
