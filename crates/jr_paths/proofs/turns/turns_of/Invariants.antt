use Rattle.std.proofs.Common.{◌≡◌, take, Some}
use Rattle.jr_ast.specs.Nodes as pure
use Rattle.jr_paths_nodes.specs.NodeView.{node_of}
use Rattle.jr_ast.specs.View.{unit_of}
use Rattle.jr_paths.specs.PathKinds.{IsLast}
use Rattle.jr_paths.proofs.turns.turns_of.Given as goal

-- the node is where the steps so far lead, and the last of each kind are those among these steps
abbrev pub invariant-loop-i : goal.invariant-loop-i
invariant-loop-i g l =
    (pure.node_at (pure.unit (unit_of l.fn.unit)) (take l.i l.fn.steps) ≡ Some (node_of l.node))
    × IsLast (pure.member_at (pure.unit (unit_of l.fn.unit))) l.fn.steps l.i l.members
    × IsLast (pure.stmt_at (pure.unit (unit_of l.fn.unit))) l.fn.steps l.i l.stmts
