use Rattle.std.proofs.Common.{refl, sym, ◌∙◌}
use Rattle.jr_runs.specs.MemberTranslation.{is_synchronized, is_synchronized_word}
use Rattle.jr_cfg.proofs.ModifierWords.{word_here, word_behind, no_word}
use Rattle.jr_cfg.proofs.members.is_synchronized.Goals as goal

pub returns-then-is_synchronized_word : goal.returns-then-is_synchronized_word
returns-then-is_synchronized_word g c =
    word_here is_synchronized is_synchronized_word (λ m ms. refl) refl c.args.modifiers.now c.loop-modifier.modifier-index c.modifier-item.result c.loop-modifier-test.true c.modifier-item.is (sym c.is_synchronized_word.ensures ∙ c.if-is_synchronized_word.true) ∙ c.loop-modifier.invariant

pub loop-modifier-preserved : goal.loop-modifier-preserved
loop-modifier-preserved g c =
    word_behind is_synchronized is_synchronized_word (λ m ms. refl) refl c.args.modifiers.now c.loop-modifier.modifier-index c.modifier-item.result c.loop-modifier-test.true c.modifier-item.is (sym c.is_synchronized_word.ensures ∙ c.if-is_synchronized_word.false) ∙ c.loop-modifier.invariant

pub returns : goal.returns
returns g c = no_word is_synchronized is_synchronized_word (λ m ms. refl) refl c.args.modifiers.now c.loop-modifier.modifier-index c.loop-modifier-test.false ∙ c.loop-modifier.invariant
