use Rattle.std.proofs.Common.{refl, sym, ◌∙◌}
use Rattle.jr_cover.specs.MemberTranslation.{is_static, is_static_word}
use Rattle.jr_cfg.proofs.ModifierWords.{word_here, word_behind, no_word}
use Rattle.jr_cfg.proofs.members.is_static.Goals as goal

pub returns-then-is_static_word : goal.returns-then-is_static_word
returns-then-is_static_word g c =
    word_here is_static is_static_word (λ m ms. refl) refl c.args.modifiers.now c.loop-modifier.modifier-index c.modifier-item.result c.loop-modifier-test.true c.modifier-item.is (sym c.is_static_word.ensures ∙ c.if-is_static_word.true) ∙ c.loop-modifier.invariant

pub loop-modifier-preserved : goal.loop-modifier-preserved
loop-modifier-preserved g c =
    word_behind is_static is_static_word (λ m ms. refl) refl c.args.modifiers.now c.loop-modifier.modifier-index c.modifier-item.result c.loop-modifier-test.true c.modifier-item.is (sym c.is_static_word.ensures ∙ c.if-is_static_word.false) ∙ c.loop-modifier.invariant

pub returns : goal.returns
returns g c = no_word is_static is_static_word (λ m ms. refl) refl c.args.modifiers.now c.loop-modifier.modifier-index c.loop-modifier-test.false ∙ c.loop-modifier.invariant
