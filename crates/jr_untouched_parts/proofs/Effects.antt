-- Effects of wholes by those of their parts.
use Rattle.std.proofs.Common.{◌≡◌, refl, ◌∙◌}
use Rattle.jr_rewrite.specs.Rewritten.{Rewritten, joined}
use Rattle.jr_new_bodies.specs.Effects.{no_effect, both, effect_of}
use Rattle.jr_new_bodies.proofs.Joining.{both_none, none_both}
use Rattle.jr_untouched_parts.specs.Staying.{HasEffectOf, IsUntouched}

-- behind what is untouched, and in front of it
pub behind_untouched : {T U V W : Type 0} (f : T → U → V) (p : Rewritten T) (o : Rewritten U) (q : Rewritten W) → IsUntouched p → HasEffectOf q o → HasEffectOf q (joined f p o)
behind_untouched f p o q u h = (λ i. both (u i) (h i)) ∙ none_both (effect_of q)

pub before_untouched : {T U V W : Type 0} (f : T → U → V) (o : Rewritten T) (p : Rewritten U) (q : Rewritten W) → HasEffectOf q o → IsUntouched p → HasEffectOf q (joined f o p)
before_untouched f o p q h u = (λ i. both (h i) (u i)) ∙ both_none (effect_of q)

pub both_untouched : {T U V : Type 0} (f : T → U → V) (o : Rewritten T) (p : Rewritten U) → IsUntouched o → IsUntouched p → IsUntouched (joined f o p)
both_untouched f o p a b = (λ i. both (a i) (b i)) ∙ none_both no_effect
