use Rattle.std.proofs.Common.{inl, inr}
use Rattle.std.proofs.lemmas.Result.{IfOk-weaker}
use Rattle.jr_new_words.proofs.Refuting.{refuted}
use Rattle.jr_new_words.proofs.classes.renamed_or_lost.Goals as goal

pub returns-then-is_class : goal.returns-then-is_class
returns-then-is_class c = IfOk-weaker c.renaming.result _ _ (λ h e. inl (c.is_class.ensures.0 c.if-is_class.true, e)) c.renaming.ensures

pub returns-else-is_class : goal.returns-else-is_class
returns-else-is_class c = IfOk-weaker c.lost_class.result _ _ (λ h e. inr (refuted c.if-is_class.false c.is_class.ensures, e)) c.lost_class.ensures
