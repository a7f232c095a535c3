use Rattle.std.proofs.Common.{sym, ◌∙◌}
use Rattle.std.proofs.lemmas.List.{length-map}
use Rattle.std.proofs.lemmas.Result.{IfOk-weaker}
use Rattle.jr_ast.specs.View.{param_of}
use Rattle.jr_extract_lists.proofs.walks.first_local.Goals as goal

pub returns : goal.returns
returns c = IfOk-weaker c.count_params.result _ _ (λ n h. h ∙ sym (length-map c.args.of.now.body.code.params.now param_of)) c.count_params.ensures
