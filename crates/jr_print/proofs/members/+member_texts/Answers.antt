use Rattle.std.proofs.Common.{◌++◌, map, option_map, refl, sym, ap, ◌∙◌}
use Rattle.std.specs.Prelude.{codes}
use Rattle.std.proofs.lemmas.Result.{on_ok_weaker}
use Rattle.jr_print.specs.ExpressionText.{printed_type}
use Rattle.jr_print.specs.StatementText.{printed_stmts}
use Rattle.jr_print.specs.MemberText.{printed_init, printed_modifiers, printed_params, printed_result, printed_super, printed_extends, printed_class, printed_member, printed_members}
use Rattle.jr_print.proofs.Puts.{put_one, put_two, put_four, put_five, put_six, put_seven, field_text, method_text, constructor_text, class_text, put_item, put_all}
use Rattle.jr_ast.specs.declared.members.Class.{out-Class}
use Rattle.jr_ast.specs.View.{word_of, modifier_of, type_of, param_of, expr_of, args_of, stmts_of, member_of, members_of, class_of, member_kind, member_row}
use Rattle.jr_ast.proofs.Rows.{class_of-out}
use Rattle.jr_ast.proofs.Sizes.{member_size, members_size, class_size, members_add}
use Rattle.jr_print.proofs.Measures.{less, less_one, falls_only, falls_item}
use Rattle.jr_print.proofs.members.+member_texts.Goals as goal

pub member-class-requires : goal.member-class-requires
unfolding member_size members_size class_size member_kind member_row class_of
member-class-requires g t c =
    let whole = member_size (member_of c.args.of.now) in
    let m = c.args.of.now.mark in
    let at = c.in-Inner in
    λ κs o. (less _ t (falls_only (λ x. class_size (class_of x)) whole at.of at.of t refl (ap (λ d. member_size (member_kind m d)) at.is) c.decreases), o)

pub class-members-requires : goal.class-members-requires
unfolding member_size members_size class_size member_kind member_row class_of
class-members-requires g t c =
    λ κs o. (less_one _ t (falls_only (λ xs. members_size (members_of xs)) (class_size (class_of c.args.of.now)) (out-Class _ c.args.of.now).members.items c.deref-2.result.now t c.deref-2.ensures.value (ap class_size (class_of-out _ c.args.of.now)) c.decreases), o)

pub members-member-requires : goal.members-member-requires
members-member-requires g t c =
    λ κs o. (falls_item (λ x. member_size (member_of x)) (λ xs. members_size (members_of xs)) members_add c.args.parts.now c.loop-part.part-index c.part-item.result t c.loop-part-test.true c.part-item.is c.decreases, o)

pub members-loop-part-preserved : goal.members-loop-part-preserved
members-loop-part-preserved g t c =
    put_item (λ xs. printed_members (members_of xs)) (λ x. codes " " ++ printed_member (member_of x)) (λ x xs. refl) _ _ _ c.args.parts.now c.loop-part.part-index c.part-item.result
    c.loop-part-test.true c.part-item.is (put_two _ _ _ _ _ _ c.in_ok-put.ensures c.in_ok-member.ensures refl) c.loop-part.invariant

pub members-returns : goal.members-returns
members-returns g t c =
    put_all (λ xs. printed_members (members_of xs)) (λ x. codes " " ++ printed_member (member_of x)) (λ x xs. refl) _ _ c.args.parts.now c.loop-part.part-index c.loop-part-test.false refl c.loop-part.invariant

pub member-returns-in_ok-signature-in-Method : goal.member-returns-in_ok-signature-in-Method
unfolding member_kind member_row class_of
member-returns-in_ok-signature-in-Method g t c =
    let at = c.in-Method in
    let m = c.args.of.now.mark in
    let result = printed_result (option_map type_of at.ret) in
    let name = (word_of at.name).text in
    let view = ap (λ d. printed_member (member_kind m d)) at.is in
    on_ok_weaker c.body.result
    (λ e. put_five _ _ _ _ _ _ _ _ _ _ _ _ c.in_ok-modifiers-in-Method.ensures c.in_ok-result_type-in-Method.ensures c.in_ok-put-in-Method.ensures c.in_ok-signature-in-Method.ensures e
    ((λ i. printed_modifiers (map modifier_of (c.deref-in-Method.ensures.value i))
    ++ (result ++ (codes " " ++ ((name ++ codes "(" ++ printed_params (map param_of (c.deref-in-Method-2.ensures.value i)) ++ codes ") {") ++ (printed_stmts (stmts_of (c.deref-in-Method-3.ensures.value i)) ++ codes " }")))))
    ∙ method_text _ result name _ _ ∙ sym view)) c.body.ensures

pub member-returns-in_ok-super_call-in-Ctor : goal.member-returns-in_ok-super_call-in-Ctor
unfolding member_kind member_row class_of
member-returns-in_ok-super_call-in-Ctor g t c =
    let at = c.in-Ctor in
    let m = c.args.of.now.mark in
    let parent = printed_super (args_of at.parent_args) in
    let name = (word_of at.name).text in
    let view = ap (λ d. printed_member (member_kind m d)) at.is in
    on_ok_weaker c.body-in-Ctor.result
    (λ e. put_four _ _ _ _ _ _ _ _ _ _ c.in_ok-modifiers-in-Ctor.ensures c.in_ok-signature-in-Ctor.ensures c.in_ok-super_call-in-Ctor.ensures e
    ((λ i. printed_modifiers (map modifier_of (c.deref-in-Ctor.ensures.value i))
    ++ ((name ++ codes "(" ++ printed_params (map param_of (c.deref-in-Ctor-2.ensures.value i)) ++ codes ") {") ++ (parent ++ (printed_stmts (stmts_of (c.deref-in-Ctor-3.ensures.value i)) ++ codes " }"))))
    ∙ constructor_text _ name _ parent _ ∙ sym view)) c.body-in-Ctor.ensures

pub class-returns : goal.class-returns
unfolding member_kind member_row class_of
class-returns g t c =
    let of = out-Class _ c.args.of.now in
    let name = (word_of of.name).text in
    let parent = printed_extends (option_map type_of of.parent) in
    on_ok_weaker c.put-3.result
    (λ e. put_seven _ _ _ _ _ _ _ _ _ _ _ _ _ _ _ _ c.in_ok-modifiers.ensures c.in_ok-put.ensures c.in_ok-word.ensures c.in_ok-extends.ensures c.in_ok-put-2.ensures c.in_ok-members.ensures e
    ((λ i. printed_modifiers (map modifier_of (c.deref.ensures.value i)) ++ (codes "class " ++ (name ++ (parent ++ (codes " {" ++ (printed_members (members_of (c.deref-2.ensures.value i)) ++ codes " }"))))))
    ∙ class_text _ name parent _ ∙ sym (ap printed_class (class_of-out _ c.args.of.now)))) c.put-3.ensures

pub member-returns-in_ok-init-in-Field : goal.member-returns-in_ok-init-in-Field
unfolding member_kind member_row class_of
member-returns-in_ok-init-in-Field g t c =
    let at = c.in-Field in
    let m = c.args.of.now.mark in
    let type = printed_type (type_of at.of_type) in
    let name = (word_of at.name).text in
    let value = printed_init (option_map expr_of at.value) in
    let view = ap (λ d. printed_member (member_kind m d)) at.is in
    on_ok_weaker c.put-in-Field.result
    (λ e. put_six _ _ _ _ _ _ _ _ _ _ _ _ _ _ c.in_ok-modifiers-in-Field.ensures c.in_ok-ty-in-Field.ensures c.in_ok-put-in-Field.ensures c.in_ok-word-in-Field.ensures c.in_ok-init-in-Field.ensures e
    ((λ i. printed_modifiers (map modifier_of (c.deref.ensures.value i)) ++ (type ++ (codes " " ++ (name ++ (value ++ codes ";")))))
    ∙ field_text _ type name value ∙ sym view)) c.put-in-Field.ensures

pub member-returns-in-Inner : goal.member-returns-in-Inner
unfolding member_kind member_row class_of
member-returns-in-Inner g t c =
    let view = ap (λ d. printed_member (member_kind c.args.of.now.mark d)) c.in-Inner.is in
    on_ok_weaker c.class.result (λ e. put_one _ _ _ _ e (sym view)) c.class.ensures
