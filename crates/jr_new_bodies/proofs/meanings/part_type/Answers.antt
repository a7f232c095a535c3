use Rattle.std.proofs.Common.{ap, ◌∙◌}
use Rattle.std.proofs.lemmas.Result.{IfOk-weaker}
use Rattle.jr_new_bodies.specs.Known.{type_at}
use Rattle.jr_new_bodies.proofs.meanings.part_type.Goals as goal

pub returns : goal.returns
returns c = IfOk-weaker c.copy_type.result _ _ (λ o is. is ∙ c.ty.ensures ∙ ap (type_at c.args.here.now) c.in_ok-inner.ensures) c.copy_type.ensures
