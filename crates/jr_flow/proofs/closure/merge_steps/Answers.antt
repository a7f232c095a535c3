use Rattle.std.proofs.Common.{◌≡◌, ◌<◌, ◌/◌, arith}
use Rattle.jr_flow.proofs.Words.{moves_none, moves_more}
use Rattle.jr_flow.proofs.Extending.{extends_none, extends_part, word_more}
use Rattle.jr_flow.proofs.closure.merge_steps.Goals as goal

pub loop-word-init : goal.loop-word-init
loop-word-init c = record {
  extends =
      extends_part c.args.width c.args.steps.now (λ a b. ⊥) (λ a b. (a ≡ c.args.node) × (b / 64 < 0)) c.args.rows.now c.args.rows.now
      (λ a b inside at. let low = at.1 in omega arith) (extends_none c.args.width c.args.steps.now c.args.rows.now);
  moves = moves_none c.args.rows.now;
}

pub loop-word-preserved : goal.loop-word-preserved
loop-word-preserved c = record {
  extends = word_more c.args.width c.args.steps.now c.args.rows.now c.loop-word.rows c.merge_word_steps-told.new.rows c.args.node c.loop-word.word c.loop-word.invariant.extends c.merge_word_steps-told.ensures.extends;
  moves = moves_more c.args.rows.now c.loop-word.rows c.merge_word_steps-told.new.rows c.loop-word.changed c.merge_word_steps-told.result c.loop-word.invariant.moves c.merge_word_steps-told.ensures.moves;
}

pub returns-clause-extends : goal.returns-clause-extends
returns-clause-extends c =
    let last : c.loop-word.word ≡ c.args.width = omega arith in
    extends_part c.args.width c.args.steps.now (λ a b. (a ≡ c.args.node) × (b / 64 < c.loop-word.word)) (λ a b. a ≡ c.args.node)
    c.args.rows.now c.loop-word.rows (λ a b inside at. (at, omega arith)) c.loop-word.invariant.extends

pub returns-clause-moves : goal.returns-clause-moves
returns-clause-moves c = c.loop-word.invariant.moves
