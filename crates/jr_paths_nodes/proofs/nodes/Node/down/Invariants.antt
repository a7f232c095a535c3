use Rattle.std.proofs.Common.{◌≡◌, drop}
use Rattle.jr_ast.specs.Nodes as pure
use Rattle.jr_paths_nodes.specs.NodeView.{node_of}
use Rattle.jr_paths_nodes.proofs.nodes.Node.down.Given as goal

-- what is left of the path leads from here to where the whole leads
abbrev pub invariant-loop-step : goal.invariant-loop-step
invariant-loop-step g l = pure.node_at (node_of l.node) (drop l.step-index l.steps) ≡ pure.node_at (node_of l.initial.node) l.steps
