use Rattle.std.proofs.Common.{◌≡◌, Option, Some, None, ◌∙◌, subst}
use Rattle.jr_table.specs.Keys.{Ty}
use Rattle.jr_new_bodies.specs.MeaningView.{IsValueIn}
use Rattle.jr_new_bodies.proofs.meanings.value_at.Goals as goal

pub returns-in-None : goal.returns-in-None
returns-in-None c = λ k is. let e = c.in-None.ensures ∙ is in absurd cc

pub returns-in-Some : goal.returns-in-Some
returns-in-Some c = subst (λ (t : Option Ty). IsValueIn t c.class_value.result) c.in-Some.ensures c.class_value.ensures
