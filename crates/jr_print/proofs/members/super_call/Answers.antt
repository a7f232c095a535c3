use Rattle.std.proofs.Common.{◌++◌, sym, ap, ◌∙◌}
use Rattle.std.specs.Prelude.{codes}
use Rattle.std.proofs.lemmas.Result.{on_ok_weaker}
use Rattle.jr_ast.specs.View.{exprs_of, args_of}
use Rattle.jr_print.specs.ExpressionText.{printed_args}
use Rattle.jr_print.specs.MemberText.{printed_super}
use Rattle.jr_print.proofs.Puts.{put_three, super_text}
use Rattle.jr_print.proofs.members.super_call.Goals as goal

pub returns-in_ok-arguments-in-Some : goal.returns-in_ok-arguments-in-Some
returns-in_ok-arguments-in-Some g c =
    let text = ap (λ es. codes " super(" ++ printed_args (exprs_of es) ++ codes ");") c.deref.ensures.value in
    let view = ap (λ o. printed_super (args_of o)) c.in-Some.is in
    on_ok_weaker c.put-in-Some.result
    (λ e. put_three _ _ _ _ _ _ _ _ c.in_ok-put-in-Some.ensures c.in_ok-arguments-in-Some.ensures e
    (super_text (printed_args (exprs_of c.deref.result.now)) ∙ text ∙ sym view)) c.put-in-Some.ensures
