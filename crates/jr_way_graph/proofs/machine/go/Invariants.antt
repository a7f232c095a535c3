use Rattle.std.proofs.Common.{◌≡◌, ◌≤◌, take}
use Rattle.jr_way_graph.specs.PieceView.{machine_view}
use Rattle.jr_way_graph.specs.Pieces.{run, none}
use Rattle.jr_way_graph.proofs.machine.go.Given as goal

abbrev pub invariant-loop-number : goal.invariant-loop-number
invariant-loop-number l = record {
  few : l.machine.count ≤ l.number;
  runs : machine_view l.machine ≡ run (take l.number l.shapes) none;
}
