use Rattle.std.proofs.Common.{◌*◌, ◌<◌}
use Rattle.jr_flow.specs.Rows.{Moves}
use Rattle.jr_flow.specs.Spreading.{Spreads}
use Rattle.jr_flow.proofs.search.spread_pass.Given as goal

abbrev pub invariant-loop-node : goal.invariant-loop-node
invariant-loop-node l = record {
  spreads : Spreads l.width (64 * l.width) l.stops (λ b. b < l.node) l.fn.rows l.rows;
  moves : Moves l.fn.rows l.rows l.changed;
}
