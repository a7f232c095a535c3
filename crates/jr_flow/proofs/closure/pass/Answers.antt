use Rattle.std.proofs.Common.{◌<◌, ◌≤◌, ◌*◌, ◌/◌, arith}
use Rattle.jr_flow.proofs.Words.{moves_none, moves_more}
use Rattle.jr_flow.proofs.Extending.{extends_none, extends_part, node_more}
use Rattle.jr_flow.proofs.closure.pass.Goals as goal

pub loop-node-init : goal.loop-node-init
loop-node-init c = record {
  extends =
      extends_part c.args.width c.args.steps.now (λ a b. ⊥) (λ a b. (64 * c.args.width ≤ a) × (a / 64 < c.args.width)) c.args.rows.now c.args.rows.now
      (λ a b inside at. let high = at.0 in let low = at.1 in omega arith) (extends_none c.args.width c.args.steps.now c.args.rows.now);
  moves = moves_none c.args.rows.now;
}

pub loop-node-preserved : goal.loop-node-preserved
loop-node-preserved c = record {
  extends = node_more c.args.width c.args.steps.now c.args.rows.now c.loop-node.rows c.merge_steps-told.new.rows c.loop-node.node c.loop-node-test.true c.loop-node.invariant.extends c.merge_steps-told.ensures.extends;
  moves = moves_more c.args.rows.now c.loop-node.rows c.merge_steps-told.new.rows c.loop-node.moved c.merge_steps-told.result c.loop-node.invariant.moves c.merge_steps-told.ensures.moves;
}

pub returns-clause-extends : goal.returns-clause-extends
returns-clause-extends c =
    extends_part c.args.width c.args.steps.now (λ a b. (c.loop-node.node ≤ a) × (a / 64 < c.args.width)) (λ a b. a / 64 < c.args.width)
    c.args.rows.now c.loop-node.rows (λ a b inside at. (omega arith, at)) c.loop-node.invariant.extends

pub returns-clause-moves : goal.returns-clause-moves
returns-clause-moves c = c.loop-node.invariant.moves
