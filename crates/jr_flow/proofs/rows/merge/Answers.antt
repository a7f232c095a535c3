use Rattle.std.proofs.Common.{◌≡◌, ◌+◌, List, ℕ, sym, subst, arith}
use Rattle.jr_flow.specs.Rows.{Merges}
use Rattle.jr_flow.proofs.Words.{moves_none, moves_more}
use Rattle.jr_flow.proofs.Merging.{merges_none, merges_more}
use Rattle.jr_flow.proofs.rows.merge.Goals as goal

pub loop-k-init : goal.loop-k-init
loop-k-init c = record {
  merges = merges_none c.args.width c.args.from c.args.to c.args.words.now;
  moves = moves_none c.args.words.now;
}

pub loop-k-preserved : goal.loop-k-preserved
loop-k-preserved c = record {
  merges =
      subst (λ (ws : List ℕ). Merges c.args.width c.args.from c.args.to (c.loop-k.k + 1) c.args.words.now ws) (sym c.merge_word-told.ensures.word)
      (merges_more c.args.width c.args.from c.args.to c.loop-k.k c.args.words.now c.loop-k.words (omega arith) (omega arith) c.loop-k.invariant.merges);
  moves = moves_more c.args.words.now c.loop-k.words c.merge_word-told.new.words c.loop-k.changed c.merge_word-told.result c.loop-k.invariant.moves c.merge_word-told.ensures.moves;
}

pub returns-clause-merges : goal.returns-clause-merges
returns-clause-merges c =
    let last : c.loop-k.k ≡ c.args.width = omega arith in
    subst (λ (n : ℕ). Merges c.args.width c.args.from c.args.to n c.args.words.now c.loop-k.words) last c.loop-k.invariant.merges

pub returns-clause-moves : goal.returns-clause-moves
returns-clause-moves c = c.loop-k.invariant.moves
