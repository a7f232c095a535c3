use Rattle.std.proofs.Common.{ap, ◌∙◌}
use Rattle.std.proofs.lemmas.Result.{IfOk-weaker}
use Rattle.jr_ast.specs.StatementTree as tree
use Rattle.jr_ast.specs.View.{stmt_of, expr_of}
use Rattle.jr_paths_copies.proofs.MadeOf.{that_ok}
use Rattle.jr_paths_copies.proofs.made_stmts.while_loop.Goals as goal

pub returns : goal.returns
returns g c = IfOk-weaker c.in_box.result _ _ (λ x boxed. that_ok _ c.in_ok-condition.ensures.0 (that_ok _ c.in_ok-condition.ensures.1 (ap stmt_of boxed ∙ c.while_loop.ensures ∙ ap (λ e. tree.loop c.args.mark (expr_of e) (stmt_of c.in_ok-condition.body.value)) c.into_inner.ensures))) c.in_box.ensures
