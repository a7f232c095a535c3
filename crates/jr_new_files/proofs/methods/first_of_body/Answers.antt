use Rattle.std.proofs.Common.{◌≡◌, ℕ, ◌+◌, length, map, arith}
use Rattle.std.proofs.lemmas.List.{length-map}
use Rattle.std.proofs.lemmas.Result.{IfOk-weaker}
use Rattle.std.specs.Prelude.{option_map}
use Rattle.jr_ast.specs.View.{type_of, param_of, modifier_of}
use Rattle.jr_table.specs.TypesAt.{count_type}
use Rattle.jr_new_files.proofs.Placing.{method_sum}
use Rattle.jr_new_files.proofs.methods.first_of_body.Goals as goal

pub returns : goal.returns
returns c =
    IfOk-weaker c.plus-3.result _ _ (λ n e. λ rows. method_sum _ _ _ _ _ _ _ _ _ _ n e c.in_ok-named.ensures c.in_ok-typed.ensures c.in_ok-before.ensures (c.has_type.ensures rows) c.in_ok-some.ensures (length-map c.args.modifiers.now modifier_of) (length-map c.args.params.now param_of)) c.plus-3.ensures
