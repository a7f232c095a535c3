use Rattle.std.proofs.Common.{◌/◌, ◌<◌, arith}
use Rattle.jr_flow.proofs.Words.{moves_none, moves_more}
use Rattle.jr_flow.proofs.Outward.{spreads_none, spreads_part, node_next}
use Rattle.jr_flow.proofs.search.spread_pass.Goals as goal

pub loop-node-init : goal.loop-node-init
loop-node-init c = record {
  spreads =
      spreads_part c.args.width c.args.stops.now (λ b. ⊥) (λ b. b < 0) c.args.rows.now c.args.rows.now (λ b inside low. omega arith)
      (spreads_none c.args.width c.args.stops.now c.args.rows.now);
  moves = moves_none c.args.rows.now;
}

pub loop-node-preserved : goal.loop-node-preserved
loop-node-preserved c = record {
  spreads = node_next c.args.width c.args.stops.now c.loop-node.node c.args.rows.now c.loop-node.rows c.spread_step-told.new.rows c.loop-node.invariant.spreads c.spread_step-told.ensures.spreads;
  moves = moves_more c.args.rows.now c.loop-node.rows c.spread_step-told.new.rows c.loop-node.changed c.spread_step-told.result c.loop-node.invariant.moves c.spread_step-told.ensures.moves;
}

pub returns-clause-spreads : goal.returns-clause-spreads
returns-clause-spreads c =
    spreads_part c.args.width c.args.stops.now (λ b. b < c.loop-node.node) (λ b. b / 64 < c.args.width) c.args.rows.now c.loop-node.rows
    (λ b inside low. omega arith) c.loop-node.invariant.spreads

pub returns-clause-moves : goal.returns-clause-moves
returns-clause-moves c = c.loop-node.invariant.moves
