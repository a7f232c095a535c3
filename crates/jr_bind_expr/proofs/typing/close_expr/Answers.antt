use Rattle.std.proofs.Common.{◌∙◌, ◌++◌, ◌∷◌, [], ◌-◌, suc, length}
use Rattle.std.proofs.lemmas.Result.{IfOk-weaker}
use Rattle.jr_bind_expr.proofs.typing.close_expr.Goals as goal

pub returns : goal.returns
returns g c = λ ctx t e r.
    let old = c.args.types.now in
    IfOk-weaker c.close.result _ _
    (λ u h. h ∙ (λ i. old ++ record { size = suc (length old - c.args.before); count = c.in_ok-parts.ensures c.args.table.now ctx i; type = c.in_ok-ty.ensures t e r i } ∷ [])) c.close.ensures
