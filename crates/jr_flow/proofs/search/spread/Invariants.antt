use Rattle.std.proofs.Common.{◌*◌}
use Rattle.jr_flow.specs.Rows.{room}
use Rattle.jr_flow.specs.Spreading.{Spreads}
use Rattle.jr_flow.proofs.search.spread.Given as goal

abbrev pub invariant-loop-width : goal.invariant-loop-width
invariant-loop-width l = Spreads l.width (64 * l.width) l.stops (λ b. ⊥) l.fn.rows l.rows

abbrev pub decreases-loop-width : goal.decreases-loop-width
decreases-loop-width l = room l.rows
