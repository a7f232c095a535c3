use Rattle.std.proofs.Common.{◌++◌, refl, sym, ap, ◌∙◌}
use Rattle.std.specs.Prelude.{codes}
use Rattle.std.proofs.lemmas.Result.{on_ok_weaker}
use Rattle.std.proofs.lemmas.List.{append_assoc}
use Rattle.jr_print.specs.ExpressionText.{printed, printed_target, printed_args, printed_more, printed_type, printed_dot, printed_unary, before_text, behind_text, printed_binary, printed_compound}
use Rattle.jr_print.proofs.Puts.{put_one, put_two, put_three, put_four, put_item, put_all, call_text, cast_text}
use Rattle.jr_ast.specs.View.{word_of, type_of, expr_of, exprs_of, target_of, expr_kind, expr_row, held_target}
use Rattle.jr_ast.proofs.Rows.{expr_kind-Call_to, expr_kind-SuperCall, expr_kind-New}
use Rattle.jr_ast.proofs.Sizes.{exp_size, exps_size, target_size, exps_add}
use Rattle.jr_print.proofs.Measures.{less, less_one, falls_left, falls_right, falls_only, falls_held, falls_same, falls_item, falls_first, falls_rest}
use Rattle.jr_print.proofs.exprs.+expr_texts.Goals as goal

pub expr-expr-requires : goal.expr-expr-requires
unfolding exp_size exps_size target_size expr_kind expr_row held_target
expr-expr-requires g t c =
    let whole = exp_size (expr_of c.args.of.now) in
    let m = c.args.of.now.mark in
    let at = c.in-Field in
    λ κs o. (less _ t (falls_only (λ x. exp_size (expr_of x)) whole at.part.value c.deref.result.now t c.deref.ensures (ap (λ d. exp_size (expr_kind m d)) at.is) c.decreases), o)

pub expr-expr-requires-in-Paren : goal.expr-expr-requires-in-Paren
unfolding exp_size exps_size target_size expr_kind expr_row held_target
expr-expr-requires-in-Paren g t c =
    let whole = exp_size (expr_of c.args.of.now) in
    let m = c.args.of.now.mark in
    let at = c.in-Paren in
    λ κs o. (less _ t (falls_only (λ x. exp_size (expr_of x)) whole at.part.value c.deref-in-Paren.result.now t c.deref-in-Paren.ensures (ap (λ d. exp_size (expr_kind m d)) at.is) c.decreases), o)

pub expr-expr-requires-in-Cast : goal.expr-expr-requires-in-Cast
unfolding exp_size exps_size target_size expr_kind expr_row held_target
expr-expr-requires-in-Cast g t c =
    let whole = exp_size (expr_of c.args.of.now) in
    let m = c.args.of.now.mark in
    let at = c.in-Cast in
    λ κs o. (less _ t (falls_only (λ x. exp_size (expr_of x)) whole at.part.value c.deref-in-Cast.result.now t c.deref-in-Cast.ensures (ap (λ d. exp_size (expr_kind m d)) at.is) c.decreases), o)

pub expr-expr-requires-in-Unary : goal.expr-expr-requires-in-Unary
unfolding exp_size exps_size target_size expr_kind expr_row held_target
expr-expr-requires-in-Unary g t c =
    let whole = exp_size (expr_of c.args.of.now) in
    let m = c.args.of.now.mark in
    let at = c.in-Unary in
    λ κs o. (less _ t (falls_only (λ x. exp_size (expr_of x)) whole at.part.value c.deref-in-Unary-2.result.now t c.deref-in-Unary-2.ensures (ap (λ d. exp_size (expr_kind m d)) at.is) c.decreases), o)

pub expr-expr-requires-in-Bump : goal.expr-expr-requires-in-Bump
unfolding exp_size exps_size target_size expr_kind expr_row held_target
expr-expr-requires-in-Bump g t c =
    let whole = exp_size (expr_of c.args.of.now) in
    let m = c.args.of.now.mark in
    let at = c.in-Bump in
    λ κs o. (less _ t (falls_only (λ x. exp_size (expr_of x)) whole at.part.value c.deref-in-Bump.result.now t c.deref-in-Bump.ensures (ap (λ d. exp_size (expr_kind m d)) at.is) c.decreases), o)

pub expr-expr-requires-in-Binary : goal.expr-expr-requires-in-Binary
unfolding exp_size exps_size target_size expr_kind expr_row held_target
expr-expr-requires-in-Binary g t c =
    let whole = exp_size (expr_of c.args.of.now) in
    let m = c.args.of.now.mark in
    let at = c.in-Binary in
    λ κs o. (less _ t (falls_left (λ x. exp_size (expr_of x)) whole (exp_size (expr_of at.right.value)) at.left.value c.deref-in-Binary.result.now t c.deref-in-Binary.ensures (ap (λ d. exp_size (expr_kind m d)) at.is) c.decreases), o)

pub expr-expr-requires-in-Binary-2 : goal.expr-expr-requires-in-Binary-2
unfolding exp_size exps_size target_size expr_kind expr_row held_target
expr-expr-requires-in-Binary-2 g t c =
    let whole = exp_size (expr_of c.args.of.now) in
    let m = c.args.of.now.mark in
    let at = c.in-Binary in
    λ κs o. (less _ t (falls_right (λ x. exp_size (expr_of x)) whole (exp_size (expr_of at.left.value)) at.right.value c.deref-in-Binary-2.result.now t c.deref-in-Binary-2.ensures (ap (λ d. exp_size (expr_kind m d)) at.is) c.decreases), o)

pub expr-expr-requires-in-Assign : goal.expr-expr-requires-in-Assign
unfolding exp_size exps_size target_size expr_kind expr_row held_target
expr-expr-requires-in-Assign g t c =
    let whole = exp_size (expr_of c.args.of.now) in
    let m = c.args.of.now.mark in
    let at = c.in-Assign in
    λ κs o. (less _ t (falls_left (λ x. exp_size (expr_of x)) whole (exp_size (expr_of at.value.value)) at.to.value c.deref-in-Assign.result.now t c.deref-in-Assign.ensures (ap (λ d. exp_size (expr_kind m d)) at.is) c.decreases), o)

pub expr-expr-requires-in-Assign-2 : goal.expr-expr-requires-in-Assign-2
unfolding exp_size exps_size target_size expr_kind expr_row held_target
expr-expr-requires-in-Assign-2 g t c =
    let whole = exp_size (expr_of c.args.of.now) in
    let m = c.args.of.now.mark in
    let at = c.in-Assign in
    λ κs o. (less _ t (falls_right (λ x. exp_size (expr_of x)) whole (exp_size (expr_of at.to.value)) at.value.value c.deref-in-Assign-2.result.now t c.deref-in-Assign-2.ensures (ap (λ d. exp_size (expr_kind m d)) at.is) c.decreases), o)

pub expr-expr-requires-in-Compound : goal.expr-expr-requires-in-Compound
unfolding exp_size exps_size target_size expr_kind expr_row held_target
expr-expr-requires-in-Compound g t c =
    let whole = exp_size (expr_of c.args.of.now) in
    let m = c.args.of.now.mark in
    let at = c.in-Compound in
    λ κs o. (less _ t (falls_left (λ x. exp_size (expr_of x)) whole (exp_size (expr_of at.value.value)) at.to.value c.deref-in-Compound.result.now t c.deref-in-Compound.ensures (ap (λ d. exp_size (expr_kind m d)) at.is) c.decreases), o)

pub expr-expr-requires-in-Compound-2 : goal.expr-expr-requires-in-Compound-2
unfolding exp_size exps_size target_size expr_kind expr_row held_target
expr-expr-requires-in-Compound-2 g t c =
    let whole = exp_size (expr_of c.args.of.now) in
    let m = c.args.of.now.mark in
    let at = c.in-Compound in
    λ κs o. (less _ t (falls_right (λ x. exp_size (expr_of x)) whole (exp_size (expr_of at.to.value)) at.value.value c.deref-in-Compound-2.result.now t c.deref-in-Compound-2.ensures (ap (λ d. exp_size (expr_kind m d)) at.is) c.decreases), o)

pub expr-target-requires : goal.expr-target-requires
unfolding exp_size exps_size target_size expr_kind expr_row held_target
expr-target-requires g t c =
    let whole = exp_size (expr_of c.args.of.now) in
    let m = c.args.of.now.mark in
    let at = c.in-Call in
    λ κs o. (less_one _ t (falls_left (λ x. target_size (target_of x)) whole (exps_size (exprs_of at.args.items)) at.on at.on t (λ i. at.on) (ap (λ d. exp_size (expr_kind m d)) at.is ∙ ap exp_size (expr_kind-Call_to _ m at.on at.name at.args)) c.decreases), o)

pub expr-arguments-requires : goal.expr-arguments-requires
unfolding exp_size exps_size target_size expr_kind expr_row held_target
expr-arguments-requires g t c =
    let whole = exp_size (expr_of c.args.of.now) in
    let m = c.args.of.now.mark in
    let at = c.in-Call in
    λ κs o. (falls_right (λ xs. exps_size (exprs_of xs)) whole (target_size (target_of at.on)) at.args.items c.deref-in-Call.result.now t c.deref-in-Call.ensures.value (ap (λ d. exp_size (expr_kind m d)) at.is ∙ ap exp_size (expr_kind-Call_to _ m at.on at.name at.args)) c.decreases, o)

pub expr-arguments-requires-in-SuperCall : goal.expr-arguments-requires-in-SuperCall
unfolding exp_size exps_size target_size expr_kind expr_row held_target
expr-arguments-requires-in-SuperCall g t c =
    let whole = exp_size (expr_of c.args.of.now) in
    let m = c.args.of.now.mark in
    let at = c.in-SuperCall in
    λ κs o. (falls_only (λ xs. exps_size (exprs_of xs)) whole at.args.items c.deref-in-SuperCall.result.now t c.deref-in-SuperCall.ensures.value (ap (λ d. exp_size (expr_kind m d)) at.is ∙ ap exp_size (expr_kind-SuperCall _ m at.name at.args)) c.decreases, o)

pub expr-arguments-requires-in-New : goal.expr-arguments-requires-in-New
unfolding exp_size exps_size target_size expr_kind expr_row held_target
expr-arguments-requires-in-New g t c =
    let whole = exp_size (expr_of c.args.of.now) in
    let m = c.args.of.now.mark in
    let at = c.in-New in
    λ κs o. (falls_only (λ xs. exps_size (exprs_of xs)) whole at.args.items c.deref-in-New.result.now t c.deref-in-New.ensures.value (ap (λ d. exp_size (expr_kind m d)) at.is ∙ ap exp_size (expr_kind-New _ m at.of_type at.args)) c.decreases, o)

pub target-expr-requires : goal.target-expr-requires
unfolding exp_size exps_size target_size
target-expr-requires g t c =
    let same_size = ap (λ x. exp_size (expr_of x)) c.deref.ensures ∙ sym (ap (λ o. target_size (target_of o)) c.in-Some.is) in
    λ κs o. (falls_held _ (target_size (target_of c.args.of.now)) t same_size c.decreases, o)

pub more-expr-requires : goal.more-expr-requires
more-expr-requires g t c =
    λ κs o. (falls_item (λ x. exp_size (expr_of x)) (λ xs. exps_size (exprs_of xs)) exps_add c.args.parts.now c.loop-part.part-index c.part-item.result t c.loop-part-test.true c.part-item.is c.decreases, o)

pub arguments-list-requires : goal.arguments-list-requires
arguments-list-requires g t c = λ κs o. (falls_same 2 _ (exps_size (exprs_of c.args.parts.now)) t refl c.decreases, o)

pub list-expr-requires : goal.list-expr-requires
list-expr-requires g t c =
    λ κs o. (falls_first (λ x. exp_size (expr_of x)) (λ xs. exps_size (exprs_of xs)) exps_add c.args.parts.now c.in-Some.first.now c.in-Some.first.now c.in-Some.rest.now t c.in-Some.ensures.cases.0 refl c.decreases, o)

pub list-more-requires : goal.list-more-requires
list-more-requires g t c =
    λ κs o. (falls_rest (λ x. exp_size (expr_of x)) (λ xs. exps_size (exprs_of xs)) exps_add c.args.parts.now c.in-Some.first.now c.in-Some.rest.now c.in-Some.rest.now t c.in-Some.ensures.cases.0 refl c.decreases, o)

pub expr-returns-in_ok-word-in-Call : goal.expr-returns-in_ok-word-in-Call
unfolding expr_kind expr_row held_target
expr-returns-in_ok-word-in-Call g t c =
    let at = c.in-Call in
    let m = c.args.of.now.mark in
    let view = ap (λ d. printed (expr_kind m d)) at.is ∙ ap printed (expr_kind-Call_to _ m at.on at.name at.args) in
    let text = ap (λ es. printed_target (target_of at.on) ++ ((word_of at.name).text ++ (codes "(" ++ printed_args (exprs_of es) ++ codes ")"))) c.deref-in-Call.ensures.value in
    on_ok_weaker c.arguments.result (λ e. put_three _ _ _ _ _ _ _ _ c.in_ok-target-in-Call.ensures c.in_ok-word-in-Call.ensures e (text ∙ call_text (printed_target (target_of at.on)) (word_of at.name).text _ ∙ sym view)) c.arguments.ensures

pub expr-returns-in_ok-word-in-SuperCall : goal.expr-returns-in_ok-word-in-SuperCall
unfolding expr_kind expr_row held_target
expr-returns-in_ok-word-in-SuperCall g t c =
    let at = c.in-SuperCall in
    let m = c.args.of.now.mark in
    let view = ap (λ d. printed (expr_kind m d)) at.is ∙ ap printed (expr_kind-SuperCall _ m at.name at.args) in
    let text = ap (λ es. codes "super." ++ ((word_of at.name).text ++ (codes "(" ++ printed_args (exprs_of es) ++ codes ")"))) c.deref-in-SuperCall.ensures.value in
    on_ok_weaker c.arguments-in-SuperCall.result (λ e. put_three _ _ _ _ _ _ _ _ c.in_ok-put-in-SuperCall.ensures c.in_ok-word-in-SuperCall.ensures e (text ∙ call_text (codes "super.") (word_of at.name).text _ ∙ sym view)) c.arguments-in-SuperCall.ensures

pub expr-returns-in_ok-boxed_ty-in-New : goal.expr-returns-in_ok-boxed_ty-in-New
unfolding expr_kind expr_row held_target
expr-returns-in_ok-boxed_ty-in-New g t c =
    let at = c.in-New in
    let m = c.args.of.now.mark in
    let view = ap (λ d. printed (expr_kind m d)) at.is ∙ ap printed (expr_kind-New _ m at.of_type at.args) in
    let text = ap (λ es. codes "new " ++ (printed_type (type_of at.of_type.value) ++ (codes "(" ++ printed_args (exprs_of es) ++ codes ")"))) c.deref-in-New.ensures.value in
    on_ok_weaker c.arguments-in-New.result (λ e. put_three _ _ _ _ _ _ _ _ c.in_ok-put-in-New.ensures c.in_ok-boxed_ty-in-New.ensures e (text ∙ call_text (codes "new ") (printed_type (type_of at.of_type.value)) _ ∙ sym view)) c.arguments-in-New.ensures

pub expr-returns-in-Int : goal.expr-returns-in-Int
unfolding expr_kind expr_row held_target
expr-returns-in-Int g t c =
    let view = ap (λ d. printed (expr_kind c.args.of.now.mark d)) c.in-Int.is in
    on_ok_weaker c.number.result (λ e. put_one _ _ _ _ e (sym view)) c.number.ensures

pub expr-returns-in-Bool : goal.expr-returns-in-Bool
unfolding expr_kind expr_row held_target
expr-returns-in-Bool g t c =
    let view = ap (λ d. printed (expr_kind c.args.of.now.mark d)) c.in-Bool.is in
    on_ok_weaker c.put.result (λ e. put_one _ _ _ _ e (c.truth.ensures ∙ sym view)) c.put.ensures

pub expr-returns-in-Null : goal.expr-returns-in-Null
unfolding expr_kind expr_row held_target
expr-returns-in-Null g t c =
    let view = ap (λ d. printed (expr_kind c.args.of.now.mark d)) c.in-Null.is in
    on_ok_weaker c.put-in-Null.result (λ e. put_one _ _ _ _ e (sym view)) c.put-in-Null.ensures

pub expr-returns-in-Text : goal.expr-returns-in-Text
unfolding expr_kind expr_row held_target
expr-returns-in-Text g t c =
    let view = ap (λ d. printed (expr_kind c.args.of.now.mark d)) c.in-Text.is in
    on_ok_weaker c.string.result (λ e. put_one _ _ _ _ e (sym view)) c.string.ensures

pub expr-returns-in-Simple : goal.expr-returns-in-Simple
unfolding expr_kind expr_row held_target
expr-returns-in-Simple g t c =
    let view = ap (λ d. printed (expr_kind c.args.of.now.mark d)) c.in-Simple.is in
    on_ok_weaker c.word.result (λ e. put_one _ _ _ _ e (sym view)) c.word.ensures

pub expr-returns-in-This : goal.expr-returns-in-This
unfolding expr_kind expr_row held_target
expr-returns-in-This g t c =
    let view = ap (λ d. printed (expr_kind c.args.of.now.mark d)) c.in-This.is in
    on_ok_weaker c.put-in-This.result (λ e. put_one _ _ _ _ e (sym view)) c.put-in-This.ensures

pub expr-returns-in_ok-put-in-Field : goal.expr-returns-in_ok-put-in-Field
unfolding expr_kind expr_row held_target
expr-returns-in_ok-put-in-Field g t c =
    let at = c.in-Field in
    let view = ap (λ d. printed (expr_kind c.args.of.now.mark d)) at.is in
    let part = printed (expr_of at.part.value) in
    let name = (word_of at.name).text in
    let mid = c.dot.ensures ∙ ap (λ x. printed_dot (expr_of x)) c.deref-in-Field.ensures in
    let text = (λ i. printed (expr_of (c.deref.ensures i)) ++ (mid i ++ name)) ∙ sym (append_assoc part (printed_dot (expr_of at.part.value)) name) in
    on_ok_weaker c.word-in-Field.result (λ e. put_three _ _ _ _ _ _ _ _ c.in_ok-expr-in-Field.ensures c.in_ok-put-in-Field.ensures e (text ∙ sym view)) c.word-in-Field.ensures

pub expr-returns-in_ok-put-in-SuperField : goal.expr-returns-in_ok-put-in-SuperField
unfolding expr_kind expr_row held_target
expr-returns-in_ok-put-in-SuperField g t c =
    let at = c.in-SuperField in
    let view = ap (λ d. printed (expr_kind c.args.of.now.mark d)) at.is in
    on_ok_weaker c.word-in-SuperField.result (λ e. put_two _ _ _ _ _ _ c.in_ok-put-in-SuperField.ensures e (sym view)) c.word-in-SuperField.ensures

pub expr-returns-in_ok-ty-in-ClassLit : goal.expr-returns-in_ok-ty-in-ClassLit
unfolding expr_kind expr_row held_target
expr-returns-in_ok-ty-in-ClassLit g t c =
    let at = c.in-ClassLit in
    let view = ap (λ d. printed (expr_kind c.args.of.now.mark d)) at.is in
    on_ok_weaker c.put-in-ClassLit.result (λ e. put_two _ _ _ _ _ _ c.in_ok-ty-in-ClassLit.ensures e (sym view)) c.put-in-ClassLit.ensures

pub expr-returns-in_ok-expr-in-Paren : goal.expr-returns-in_ok-expr-in-Paren
unfolding expr_kind expr_row held_target
expr-returns-in_ok-expr-in-Paren g t c =
    let at = c.in-Paren in
    let view = ap (λ d. printed (expr_kind c.args.of.now.mark d)) at.is in
    let text = ap (λ x. codes "(" ++ (printed (expr_of x) ++ codes ")")) c.deref-in-Paren.ensures in
    on_ok_weaker c.put-in-Paren-2.result (λ e. put_three _ _ _ _ _ _ _ _ c.in_ok-put-in-Paren.ensures c.in_ok-expr-in-Paren.ensures e (text ∙ sym view)) c.put-in-Paren-2.ensures

pub expr-returns-in_ok-put-in-Cast-2 : goal.expr-returns-in_ok-put-in-Cast-2
unfolding expr_kind expr_row held_target
expr-returns-in_ok-put-in-Cast-2 g t c =
    let at = c.in-Cast in
    let view = ap (λ d. printed (expr_kind c.args.of.now.mark d)) at.is in
    let to = printed_type (type_of at.to.value) in
    let text = ap (λ x. codes "(" ++ (to ++ (codes ") " ++ printed (expr_of x)))) c.deref-in-Cast.ensures ∙ cast_text to (printed (expr_of at.part.value)) in
    on_ok_weaker c.expr-in-Cast.result (λ e. put_four _ _ _ _ _ _ _ _ _ _ c.in_ok-put-in-Cast.ensures c.in_ok-boxed_ty-in-Cast.ensures c.in_ok-put-in-Cast-2.ensures e (text ∙ sym view)) c.expr-in-Cast.ensures

pub expr-returns-in_ok-put-in-Unary : goal.expr-returns-in_ok-put-in-Unary
unfolding expr_kind expr_row held_target
expr-returns-in_ok-put-in-Unary g t c =
    let at = c.in-Unary in
    let view = ap (λ d. printed (expr_kind c.args.of.now.mark d)) at.is in
    let sign = c.before_operand.result.now in
    let text = ap (λ x. sign ++ printed (expr_of x)) (c.deref-in-Unary-2.ensures ∙ sym c.deref-in-Unary.ensures) ∙ c.before_operand.ensures ∙ ap (λ x. printed_unary at.op (printed (expr_of x))) c.deref-in-Unary.ensures in
    on_ok_weaker c.expr-in-Unary.result (λ e. put_two _ _ _ _ _ _ c.in_ok-put-in-Unary.ensures e (text ∙ sym view)) c.expr-in-Unary.ensures

pub expr-returns-in_ok-expr-in-Bump : goal.expr-returns-in_ok-expr-in-Bump
unfolding expr_kind expr_row held_target
expr-returns-in_ok-expr-in-Bump g t c =
    let at = c.in-Bump in
    let view = ap (λ d. printed (expr_kind c.args.of.now.mark d)) at.is in
    let before = c.before_bumped.ensures in
    let behind = c.behind_bumped.ensures in
    let text = (λ i. before i ++ (printed (expr_of (c.deref-in-Bump.ensures i)) ++ behind i)) ∙ sym (append_assoc (before_text at.op) (printed (expr_of at.part.value)) (behind_text at.op)) in
    on_ok_weaker c.put-in-Bump-2.result (λ e. put_three _ _ _ _ _ _ _ _ c.in_ok-put-in-Bump.ensures c.in_ok-expr-in-Bump.ensures e (text ∙ sym view)) c.put-in-Bump-2.ensures

pub expr-returns-in_ok-put-in-Binary : goal.expr-returns-in_ok-put-in-Binary
unfolding expr_kind expr_row held_target
expr-returns-in_ok-put-in-Binary g t c =
    let at = c.in-Binary in
    let view = ap (λ d. printed (expr_kind c.args.of.now.mark d)) at.is in
    let symbol = c.binary.ensures in
    let text = (λ i. printed (expr_of (c.deref-in-Binary.ensures i)) ++ (symbol i ++ printed (expr_of (c.deref-in-Binary-2.ensures i)))) ∙ sym (append_assoc (printed (expr_of at.left.value)) (printed_binary at.op) (printed (expr_of at.right.value))) in
    on_ok_weaker c.expr-in-Binary-2.result (λ e. put_three _ _ _ _ _ _ _ _ c.in_ok-expr-in-Binary.ensures c.in_ok-put-in-Binary.ensures e (text ∙ sym view)) c.expr-in-Binary-2.ensures

pub expr-returns-in_ok-put-in-Compound : goal.expr-returns-in_ok-put-in-Compound
unfolding expr_kind expr_row held_target
expr-returns-in_ok-put-in-Compound g t c =
    let at = c.in-Compound in
    let view = ap (λ d. printed (expr_kind c.args.of.now.mark d)) at.is in
    let symbol = c.compound.ensures in
    let text = (λ i. printed (expr_of (c.deref-in-Compound.ensures i)) ++ (symbol i ++ printed (expr_of (c.deref-in-Compound-2.ensures i)))) ∙ sym (append_assoc (printed (expr_of at.to.value)) (printed_compound at.op) (printed (expr_of at.value.value))) in
    on_ok_weaker c.expr-in-Compound-2.result (λ e. put_three _ _ _ _ _ _ _ _ c.in_ok-expr-in-Compound.ensures c.in_ok-put-in-Compound.ensures e (text ∙ sym view)) c.expr-in-Compound-2.ensures

pub expr-returns-in_ok-put-in-Assign : goal.expr-returns-in_ok-put-in-Assign
unfolding expr_kind expr_row held_target
expr-returns-in_ok-put-in-Assign g t c =
    let at = c.in-Assign in
    let view = ap (λ d. printed (expr_kind c.args.of.now.mark d)) at.is in
    let text = (λ i. printed (expr_of (c.deref-in-Assign.ensures i)) ++ (codes " = " ++ printed (expr_of (c.deref-in-Assign-2.ensures i)))) ∙ sym (append_assoc (printed (expr_of at.to.value)) (codes " = ") (printed (expr_of at.value.value))) in
    on_ok_weaker c.expr-in-Assign-2.result (λ e. put_three _ _ _ _ _ _ _ _ c.in_ok-expr-in-Assign.ensures c.in_ok-put-in-Assign.ensures e (text ∙ sym view)) c.expr-in-Assign-2.ensures

pub target-returns-in_ok-expr-in-Some : goal.target-returns-in_ok-expr-in-Some
target-returns-in_ok-expr-in-Some g t c =
    let mid = c.dot.ensures ∙ ap (λ x. printed_dot (expr_of x)) c.deref-in-Some.ensures in
    on_ok_weaker c.put.result (λ e. put_two _ _ _ _ _ _ c.in_ok-expr-in-Some.ensures e ((λ i. printed (expr_of (c.deref.ensures i)) ++ mid i) ∙ sym (ap (λ o. printed_target (target_of o)) c.in-Some.is))) c.put.ensures

pub arguments-returns : goal.arguments-returns
arguments-returns g t c =
    let all = printed_args (exprs_of c.args.parts.now) in
    on_ok_weaker c.put-2.result (λ e. put_three _ _ _ _ _ _ _ _ c.in_ok-put.ensures c.in_ok-list.ensures e (sym (append_assoc (codes "(") all (codes ")")))) c.put-2.ensures

pub list-returns-in_ok-expr-in-Some : goal.list-returns-in_ok-expr-in-Some
list-returns-in_ok-expr-in-Some g t c =
    let view = ap (λ xs. printed_args (exprs_of xs)) c.in-Some.ensures.cases.0 in
    on_ok_weaker c.more.result (λ e. put_two _ _ _ _ _ _ c.in_ok-expr-in-Some.ensures e (sym view)) c.more.ensures

pub more-loop-part-preserved : goal.more-loop-part-preserved
more-loop-part-preserved g t c =
    put_item (λ xs. printed_more (exprs_of xs)) (λ x. codes ", " ++ printed (expr_of x)) (λ x xs. refl) _ _ _ c.args.parts.now c.loop-part.part-index c.part-item.result
    c.loop-part-test.true c.part-item.is (put_two _ _ _ _ _ _ c.in_ok-put.ensures c.in_ok-expr.ensures refl) c.loop-part.invariant

pub more-returns : goal.more-returns
more-returns g t c =
    put_all (λ xs. printed_more (exprs_of xs)) (λ x. codes ", " ++ printed (expr_of x)) (λ x xs. refl) _ _ c.args.parts.now c.loop-part.part-index c.loop-part-test.false refl c.loop-part.invariant
