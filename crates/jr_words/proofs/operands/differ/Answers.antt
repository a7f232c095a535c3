use Rattle.std.proofs.Common.{◌≡◌, ◌∙◌, ◌<◌, length, sym, rules, refl, arith}
use Rattle.std.proofs.lemmas.Bool.{false≢true, not-true, not-false, MatchBool-at_true}
use Rattle.jr_words.proofs.Seen.{none_seen, one_seen, all_seen, seen_twice}
use Rattle.jr_words.proofs.operands.differ.Goals as goal

pub loop-operand-init : goal.loop-operand-init
loop-operand-init c = none_seen _ _ c.new-seen.ensures.empty

pub returns-then-not-branch : goal.returns-then-not-branch
returns-then-not-branch c =
    let below : c.loop-operand.operand-index < length c.args.operands.now = search rules in (
      (λ e. absurd (false≢true e)),
      λ differ. absurd (seen_twice c.args.operands.now c.loop-operand.operand-index _ c.loop-operand.seen.keys below c.loop-operand.invariant
          (not-false _ (sym c.in_ok-insert.ensures.added ∙ c.if-not-branch.true)) differ),
    )

pub loop-operand-preserved : goal.loop-operand-preserved
loop-operand-preserved c =
    let below : c.loop-operand.operand-index < length c.args.operands.now = search rules in
    one_seen c.args.operands.now c.loop-operand.operand-index _ c.loop-operand.seen.keys c.insert.new.self.keys below c.loop-operand.invariant
    (MatchBool-at_true _ _ c.if-not-branch.false c.in_ok-insert.ensures.keys) (not-true _ (sym c.in_ok-insert.ensures.added ∙ c.if-not-branch.false))

pub returns : goal.returns
returns c = ((λ e. all_seen _ _ _ (omega (arith, c.loop-operand-test.false)) c.loop-operand.invariant), λ differ. refl)
