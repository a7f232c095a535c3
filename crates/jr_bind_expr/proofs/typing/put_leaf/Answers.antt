use Rattle.std.proofs.Common.{refl, None}
use Rattle.std.proofs.lemmas.Result.{IfOk-weaker}
use Rattle.jr_expr_types.specs.Trees.{none}
use Rattle.jr_bind_expr.proofs.TypedParts.{start, close}
use Rattle.jr_bind_expr.proofs.typing.put_leaf.Goals as goal

pub returns : goal.returns
returns c =
    let front = c.args.types.now in
    IfOk-weaker c.close.result _ _ (λ u e. close front none None front _ _ _ (start front) c.count-before.ensures refl e) c.close.ensures
