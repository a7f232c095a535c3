use Rattle.std.proofs.lemmas.List.{length-map}
use Rattle.std.proofs.lemmas.Result.{IfOk-weaker}
use Rattle.jr_ast.specs.View.{param_of, modifier_of}
use Rattle.jr_new_files.proofs.Placing.{ctor_sum}
use Rattle.jr_new_files.proofs.ctors.first_of_super.Goals as goal

pub returns : goal.returns
returns c =
    IfOk-weaker c.plus-2.result _ _ (λ n e. ctor_sum _ _ _ _ _ _ _ n e c.in_ok-named.ensures c.in_ok-before.ensures c.in_ok-some.ensures (length-map c.args.modifiers.now modifier_of) (length-map c.args.params.now param_of)) c.plus-2.ensures
