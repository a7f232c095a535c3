use Rattle.std.proofs.Common.{◌∙◌, ◌++◌, ◌∷◌, [], ◌-◌, suc, length, None}
use Rattle.std.proofs.lemmas.Result.{IfOk-weaker}
use Rattle.jr_bind_parts.proofs.stmt_nodes.close_stmt.Goals as goal

pub returns : goal.returns
returns g c = λ rows n ctx.
    let old = c.args.types.now in
    IfOk-weaker c.close.result _ _
    (λ u h. h ∙ (λ i. old ++ record { size = suc (length old - c.args.before); count = c.in_ok-parts.ensures rows n ctx i; type = None } ∷ [])) c.close.ensures
