use Rattle.std.proofs.Common.{ap, sym, ◌∙◌}
use Rattle.std.proofs.lemmas.Result.{IfOk-weaker}
use Rattle.jr_ast.specs.StatementTree as tree
use Rattle.jr_ast.specs.View.{stmt_of, expr_of, else_of}
use Rattle.jr_paths_copies.proofs.MadeOf.{that_ok}
use Rattle.jr_paths_copies.proofs.made_stmts.conditional.Goals as goal

pub returns-in-None : goal.returns-in-None
returns-in-None g c = IfOk-weaker c.in_box.result _ _ (λ x boxed. that_ok _ c.in_ok-condition.was (that_ok _ c.in_ok-yes.was (that_ok _ c.in_ok-no.was (ap stmt_of boxed ∙ c.if_then.ensures ∙ ap (λ e. tree.branch c.args.mark (expr_of e) (stmt_of c.in_ok-yes.yes.value) tree.no_else) c.into_inner.ensures ∙ sym (ap (λ o. tree.branch c.args.mark (expr_of c.in_ok-condition.condition.value) (stmt_of c.in_ok-yes.yes.value) (else_of o)) c.in-None.is))))) c.in_box.ensures

pub returns-in-Some : goal.returns-in-Some
returns-in-Some g c = IfOk-weaker c.in_box-in-Some.result _ _ (λ x boxed. that_ok _ c.in_ok-condition.was (that_ok _ c.in_ok-yes.was (that_ok _ c.in_ok-no.was (ap stmt_of boxed ∙ c.if_else.ensures ∙ ap (λ e. tree.branch c.args.mark (expr_of e) (stmt_of c.in_ok-yes.yes.value) (tree.otherwise (stmt_of c.in-Some.no.value))) c.into_inner-in-Some.ensures ∙ sym (ap (λ o. tree.branch c.args.mark (expr_of c.in_ok-condition.condition.value) (stmt_of c.in_ok-yes.yes.value) (else_of o)) c.in-Some.is))))) c.in_box-in-Some.ensures
