use Rattle.std.proofs.Common.{Option, ap, ◌∙◌}
use Rattle.std.specs.Prelude.{unwrap_or}
use Rattle.std.proofs.lemmas.Result.{IfOk-weaker}
use Rattle.jr_table.specs.Keys.{Ty}
use Rattle.jr_table.specs.TypeView.{ty_of}
use Rattle.jr_new_bodies.proofs.new_types.type_where.Goals as goal

pub returns-in-None : goal.returns-in-None
returns-in-None g c = IfOk-weaker c.copy.result _ _ (λ t e. e ∙ ap (λ (o : Option Ty). unwrap_or o (ty_of c.args.ty.now)) c.in-None.ensures) c.copy.ensures

pub returns-in-Some : goal.returns-in-Some
returns-in-Some g c = IfOk-weaker c.copy-in-Some.result _ _ (λ t e. e ∙ ap (λ (o : Option Ty). unwrap_or o (ty_of c.args.ty.now)) c.in-Some.ensures) c.copy-in-Some.ensures
