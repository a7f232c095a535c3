use Rattle.std.proofs.Common.{◌<◌, ◌≤◌, ◌/◌}
use Rattle.jr_flow.specs.Rows.{Moves}
use Rattle.jr_flow.specs.Closure.{Extends}
use Rattle.jr_flow.proofs.closure.pass.Given as goal

abbrev pub invariant-loop-node : goal.invariant-loop-node
invariant-loop-node l = record {
  extends : Extends l.width l.steps (λ a b. (l.node ≤ a) × (a / 64 < l.width)) l.fn.rows l.rows;
  moves : Moves l.fn.rows l.rows l.moved;
}
