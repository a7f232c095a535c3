use Rattle.std.proofs.Common.{◌≡◌, ◌<◌, ◌+◌, ◌*◌, ◌/◌, arith}
use Rattle.std.proofs.lemmas.Nat.{row_fits}
use Rattle.jr_flow.proofs.Words.{moves_none, moves_more}
use Rattle.jr_flow.proofs.Extending.{extends_none, extends_part, extends_past_word, bit_more}
use Rattle.jr_flow.proofs.closure.merge_word_steps.Goals as goal

pub bounds-steps-node : goal.bounds-steps-node
bounds-steps-node c =
    omega (arith, row_fits c.args.node c.args.width (64 * c.args.width) c.args.width (omega arith) (omega arith))

pub returns-then-steps-node-eq0-clause-extends : goal.returns-then-steps-node-eq0-clause-extends
returns-then-steps-node-eq0-clause-extends c = extends_past_word c.args.width c.args.steps.now c.args.node c.args.word c.args.rows.now c.if-steps-node-eq0.true

pub returns-then-steps-node-eq0-clause-moves : goal.returns-then-steps-node-eq0-clause-moves
returns-then-steps-node-eq0-clause-moves c = moves_none c.args.rows.now

pub loop-bit-init : goal.loop-bit-init
loop-bit-init c = record {
  extends =
      extends_part c.args.width c.args.steps.now (λ a b. ⊥) (λ a b. (a ≡ c.args.node) × (b / 64 ≡ c.args.word) × (b < c.args.word * 64 + 0)) c.args.rows.now c.args.rows.now
      (λ a b inside at. let is = at.1 in let low = at.2 in omega arith) (extends_none c.args.width c.args.steps.now c.args.rows.now);
  moves = moves_none c.args.rows.now;
}

pub loop-bit-preserved : goal.loop-bit-preserved
loop-bit-preserved c = record {
  extends = bit_more c.args.width c.args.steps.now c.args.rows.now c.loop-bit.rows c.merge_step-told.new.rows c.args.node c.args.word c.loop-bit.bit c.loop-bit.invariant.extends c.merge_step-told.ensures.extends;
  moves = moves_more c.args.rows.now c.loop-bit.rows c.merge_step-told.new.rows c.loop-bit.changed c.merge_step-told.result c.loop-bit.invariant.moves c.merge_step-told.ensures.moves;
}

pub returns-clause-extends : goal.returns-clause-extends
returns-clause-extends c =
    let last : c.loop-bit.bit ≡ 64 = omega arith in
    extends_part c.args.width c.args.steps.now (λ a b. (a ≡ c.args.node) × (b / 64 ≡ c.args.word) × (b < c.args.word * 64 + c.loop-bit.bit)) (λ a b. (a ≡ c.args.node) × (b / 64 ≡ c.args.word))
    c.args.rows.now c.loop-bit.rows (λ a b inside at. let is = at.1 in (at.0, at.1, omega arith)) c.loop-bit.invariant.extends

pub returns-clause-moves : goal.returns-clause-moves
returns-clause-moves c = c.loop-bit.invariant.moves
