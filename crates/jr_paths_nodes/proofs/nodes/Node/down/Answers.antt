use Rattle.std.proofs.Common.{ap, ◌∙◌, option_map}
use Rattle.jr_paths_nodes.specs.NodeView.{node_of}
use Rattle.jr_paths_nodes.proofs.Walking.{step_to, step_off, step_end}
use Rattle.jr_paths_nodes.proofs.nodes.Node.down.Goals as goal

pub returns-in_err-node : goal.returns-in_err-node
returns-in_err-node g c =
    ap (λ o. option_map node_of o) c.from_residual.ensures
    ∙ step_off (node_of c.loop-step.node) c.args.steps.now c.loop-step.step-index c.loop-step-test.true c.in_err-node.ensures
    ∙ c.loop-step.invariant

pub loop-step-preserved : goal.loop-step-preserved
loop-step-preserved g c =
    step_to (node_of c.loop-step.node) (node_of c.in_ok-node.node) c.args.steps.now c.loop-step.step-index c.loop-step-test.true c.in_ok-node.ensures
    ∙ c.loop-step.invariant

pub returns : goal.returns
returns g c = step_end (node_of c.loop-step.node) c.args.steps.now c.loop-step.step-index c.loop-step-test.false ∙ c.loop-step.invariant
