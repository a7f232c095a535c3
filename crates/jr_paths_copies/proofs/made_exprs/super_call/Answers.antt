use Rattle.std.proofs.Common.{ap, ◌∙◌}
use Rattle.std.proofs.lemmas.Result.{IfOk-weaker}
use Rattle.jr_ast.specs.View.{expr_of}
use Rattle.jr_paths_copies.proofs.MadeOf.{that_ok}
use Rattle.jr_paths_copies.proofs.made_exprs.super_call.Goals as goal

pub returns : goal.returns
returns g c = IfOk-weaker c.in_box.result _ _ (λ x boxed. that_ok _ c.in_ok-name.ensures.0 (that_ok _ c.in_ok-name.ensures.1 (ap expr_of boxed ∙ c.super_call.ensures))) c.in_box.ensures
