use Rattle.std.proofs.lemmas.Result.{IfOk-weaker}
use Rattle.jr_local_parts.proofs.elements.pass.Goals as goal

pub returns-clause-goes : goal.returns-clause-goes
returns-clause-goes c = IfOk-weaker c.behind_stmt.result _ _ (λ n e. c.in_ok-bring.ensures) c.behind_stmt.ensures
