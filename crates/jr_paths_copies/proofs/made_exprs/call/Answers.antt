use Rattle.std.proofs.Common.{ap, sym, ◌∙◌}
use Rattle.std.proofs.lemmas.Result.{IfOk-weaker}
use Rattle.jr_ast.specs.Tree as tree
use Rattle.jr_ast.specs.View.{expr_of, target_of, word_of, exprs_of}
use Rattle.jr_paths_copies.proofs.MadeOf.{that_ok}
use Rattle.jr_paths_copies.proofs.made_exprs.call.Goals as goal

pub returns-in-None : goal.returns-in-None
returns-in-None g c = IfOk-weaker c.in_box.result _ _ (λ x boxed. that_ok _ c.in_ok-target.was (that_ok _ c.in_ok-name.was (that_ok _ c.in_ok-args.was (ap expr_of boxed ∙ c.call.ensures ∙ sym (ap (λ o. tree.call c.args.mark (target_of o) (word_of c.in_ok-name.name) (exprs_of c.in_ok-args.args.items)) c.in-None.is))))) c.in_box.ensures

pub returns-in-Some : goal.returns-in-Some
returns-in-Some g c = IfOk-weaker c.in_box-in-Some.result _ _ (λ x boxed. that_ok _ c.in_ok-target.was (that_ok _ c.in_ok-name.was (that_ok _ c.in_ok-args.was (ap expr_of boxed ∙ c.call_on.ensures ∙ sym (ap (λ o. tree.call c.args.mark (target_of o) (word_of c.in_ok-name.name) (exprs_of c.in_ok-args.args.items)) c.in-Some.is))))) c.in_box-in-Some.ensures
