use Rattle.std.proofs.Common.{map, ap, sym, ◌∙◌, subst, option_map}
use Rattle.std.specs.Result.{IfOk}
use Rattle.std.proofs.lemmas.Result.{IfOk-weaker}
use Rattle.std.specs.Fn.{FnReturnsAt}
use Rattle.jr_ast.specs.declared.members.Class.{out-Class}
use Rattle.jr_ast.specs.MemberTree as tree
use Rattle.jr_ast.specs.View.{word_of, type_of, expr_of, args_of, modifier_of, param_of, stmts_of, member_of, members_of, member_kind, member_row, class_of}
use Rattle.jr_ast.specs.Remarked as maps
use Rattle.jr_paths_copies.specs.Same as same
use Rattle.jr_ast.proofs.Rows.{class_of-out}
use Rattle.jr_ast.proofs.Sizes.{member_size, members_size, class_size}
use Rattle.jr_paths_copies.proofs.MadeOf.{one_more_made}
use Rattle.jr_ast.proofs.Sizes.{falls_further, falls_whole_row, falls_item, members_add}
use Rattle.jr_paths_copies.proofs.Marking.{none_yet, all_done, same_member_rows}
use Rattle.jr_paths_copies.proofs.member_marks.+member_marks.Goals as goal

pub member-class-requires : goal.member-class-requires
unfolding member_size members_size class_size member_kind member_row class_of
member-class-requires g t c =
    let whole = member_size (member_of c.args.of.now) in
    let m = c.args.of.now.mark in
    let at = c.in-Inner in
    λ κs o. (falls_further _ t (falls_whole_row (λ x. class_size (class_of x)) whole at.inner_class at.inner_class t (λ i. at.inner_class) (ap (λ d. member_size (member_kind m d)) at.is) c.decreases), (o.0, (o.1.0, (o.1.1, c.requires))))

pub class-members-requires : goal.class-members-requires
unfolding member_size members_size class_size
class-members-requires g t c =
    let whole = class_size (class_of c.args.of.now) in
    λ κs o. (falls_whole_row (λ xs. members_size (members_of xs)) whole (out-Class _ c.args.of.now).members.items c.deref.result.now t c.deref.ensures.value (ap class_size (class_of-out _ c.args.of.now)) c.decreases, (o.0, (o.1.0, (o.1.1, c.requires))))

pub members-loop-part-init : goal.members-loop-part-init
members-loop-part-init g t c = λ h k agree. none_yet (λ x. maps.map_member h (member_of x)) (λ x. maps.map_member k (member_of x)) c.new-copies.result.items c.args.parts.now c.new-copies.ensures.items

pub members-member-requires : goal.members-member-requires
members-member-requires g t c =
    λ κs o. (falls_item (λ x. member_size (member_of x)) (λ xs. members_size (members_of xs)) members_add c.args.parts.now c.loop-part.part-index c.part-item.result t c.loop-part-test.true c.part-item.is c.decreases, (o.0, (o.1.0, (o.1.1, c.requires))))

pub members-loop-part-preserved : goal.members-loop-part-preserved
members-loop-part-preserved g t c = λ h k agree.
    one_more_made (λ x. maps.map_member h (member_of x)) (λ x. maps.map_member k (member_of x)) c.loop-part.copies.items _ c.args.parts.now c.loop-part.part-index c.part-item.result c.member.result
    c.loop-part-test.true c.part-item.is c.in_ok-push_made.ensures (c.loop-part.invariant h k agree) (IfOk-weaker c.member.result _ _ (λ x copied. copied h k agree) c.member.ensures)

pub members-returns : goal.members-returns
members-returns g t c = λ h k agree.
    same_member_rows h k c.loop-part.copies.items c.args.parts.now (all_done (λ x. maps.map_member h (member_of x)) (λ x. maps.map_member k (member_of x)) _ _ c.loop-part.part-index c.loop-part-test.false (c.loop-part.invariant h k agree))

pub member-returns-in-Field : goal.member-returns-in-Field
unfolding member_kind member_row class_of
member-returns-in-Field g t c =
    let at = c.in-Field in
    let m = c.args.of.now.mark in
    subst (λ (e : tree.Member g.row.A.Denot). IfOk c.field.result (λ x. same.SameMember (FnReturnsAt g.F.Fn c.args.f.now) e (member_of x.value)))
    ((λ i. tree.field m (map modifier_of (c.deref.ensures.value i)) (type_of at.ty) (word_of at.name) (option_map expr_of at.init)) ∙ sym (ap (member_kind m) at.is))
    c.field.ensures

pub member-returns-in-Method : goal.member-returns-in-Method
unfolding member_kind member_row class_of
member-returns-in-Method g t c =
    let at = c.in-Method in
    let m = c.args.of.now.mark in
    subst (λ (e : tree.Member g.row.A.Denot). IfOk c.method.result (λ x. same.SameMember (FnReturnsAt g.F.Fn c.args.f.now) e (member_of x.value)))
    ((λ i. tree.method m (map modifier_of (c.deref-in-Method.ensures.value i)) (option_map type_of at.ret) (word_of at.name) (map param_of (c.deref-in-Method-2.ensures.value i)) (stmts_of (c.deref-in-Method-3.ensures.value i))) ∙ sym (ap (member_kind m) at.is))
    c.method.ensures

pub member-returns-in-Ctor : goal.member-returns-in-Ctor
unfolding member_kind member_row class_of
member-returns-in-Ctor g t c =
    let at = c.in-Ctor in
    let m = c.args.of.now.mark in
    subst (λ (e : tree.Member g.row.A.Denot). IfOk c.ctor.result (λ x. same.SameMember (FnReturnsAt g.F.Fn c.args.f.now) e (member_of x.value)))
    ((λ i. tree.constructor m (map modifier_of (c.deref-in-Ctor.ensures.value i)) (word_of at.name) (map param_of (c.deref-in-Ctor-2.ensures.value i)) (args_of at.parent_args) (stmts_of (c.deref-in-Ctor-3.ensures.value i))) ∙ sym (ap (member_kind m) at.is))
    c.ctor.ensures

pub member-returns-in-Inner : goal.member-returns-in-Inner
unfolding member_kind member_row class_of
member-returns-in-Inner g t c =
    let at = c.in-Inner in
    let m = c.args.of.now.mark in
    subst (λ (e : tree.Member g.row.A.Denot). IfOk c.inner.result (λ x. same.SameMember (FnReturnsAt g.F.Fn c.args.f.now) e (member_of x.value)))
    (sym (ap (member_kind m) at.is))
    (c.inner.ensures (class_of at.inner_class) c.class.ensures)

pub class-returns : goal.class-returns
class-returns g t c =
    let all = IfOk-weaker c.members.result _ _ (λ ms copied h k agree. copied h k agree ∙ ap (λ xs. maps.map_members k (members_of xs)) c.deref.ensures.value) c.members.ensures in
    c.class_with.ensures all
