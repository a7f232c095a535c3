use Rattle.std.proofs.Common.{take}
use Rattle.jr_flow.specs.Holding.{HoldsEdges}
use Rattle.jr_flow.proofs.filling.put_edges.Given as goal

abbrev pub invariant-loop-edge : goal.invariant-loop-edge
invariant-loop-edge l = HoldsEdges l.width l.stops (take l.edge-index l.edges) l.rows
