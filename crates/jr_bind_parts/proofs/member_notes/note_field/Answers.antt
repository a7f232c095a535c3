use Rattle.std.proofs.Common.{◌≡◌, ◌++◌, ◌+◌, ℕ, None, false, subst, ap, ◌∙◌, arith}
use Rattle.std.proofs.lemmas.Result.{IfOk-weaker}
use Rattle.std.specs.Prelude.{option_map, Some}
use Rattle.jr_ast.specs.View.{type_of, expr_of}
use Rattle.jr_table.specs.Decls.{MemberKey, class_decl}
use Rattle.jr_table.specs.KeyView.{member_key_of}
use Rattle.jr_table.specs.Entries.{number_of, class_of_member}
use Rattle.jr_table.specs.HeadRules.{plain}
use Rattle.jr_bind_expr.proofs.Scoped.{class_is}
use Rattle.jr_bind_parts.proofs.Parting.{member_here, field_whole}
use Rattle.jr_expr_types.specs.Trees.{none}
use Rattle.jr_expr_types.specs.TypedTrees.{put_leaves, put_maybe}
use Rattle.jr_bind_parts.specs.TypedFlow.{maybe_slots}
use Rattle.jr_bind_expr.proofs.Oks.{IfOk-any}
use Rattle.jr_bind_expr.proofs.TypedParts.{close, within}
use Rattle.jr_bind_parts.proofs.TypedPassing.{add_more, maybe_flats, maybe_counted}
use Rattle.jr_bind_parts.proofs.member_notes.note_field.Goals as goal

pub returns-clause-notes : goal.returns-clause-notes
returns-clause-notes g c =
    let B = λ (m : g.row.A.Denot) (b : ℕ). (g.A.Mark.span_from m b).from in
    let rows = c.args.table.now in
    let k = member_key_of c.args.key.now in
    let s = c.args.is_static in
    let p = c.plain_place-place.result in
    let here = c.plain_place-place.ensures.context in
    let class = class_is rows (class_of_member k) p.class (subst (λ (m : MemberKey). number_of rows (class_decl (class_of_member m)) ≡ Some p.class) (member_here p (plain k s) here) c.plain_place-place.ensures.knows.class) in
    IfOk-any c.close.result _ (field_whole B rows k c.args.at s (type_of c.args.ty.now) (option_map expr_of c.args.init.now) c.args.log.now.items c.put_type.new.log.items c.put_initializer.new.log.items
    (c.in_ok-put_type.ensures k (plain k false) class) (c.in_ok-put_initializer.ensures.notes k s here))

pub returns-clause-slots : goal.returns-clause-slots
returns-clause-slots g c =
    let rows = c.args.table.now in
    let d = plain (member_key_of c.args.key.now) c.args.is_static in
    let init = option_map expr_of c.args.init.now in
    let front = c.args.types.now in
    let ps = put_leaves 2 (put_leaves c.args.modifiers none) in
    let qs = put_maybe rows d ps init in
    let more = c.in_ok-put_initializer.ensures.slots ∙ ap (λ e. c.put_front.new.types ++ maybe_slots rows e init) c.plain_place-place.ensures.context in
    let h = add_more front ps qs _ _ _ (maybe_flats rows d ps init) c.in_ok-first.ensures.slots more in
    let first = c.in_ok-first.ensures.count in
    let one = c.maybe_parts.ensures in
    let sum = c.in_ok-parts.ensures in
    let many = maybe_counted rows d ps init in
    IfOk-weaker c.close.result _ _ (λ u e. close front qs None _ _ _ _ h c.count-before.ensures (omega (arith, first, one, sum, many)) e) c.close.ensures

pub close-requires : goal.close-requires
close-requires g c =
    let rows = c.args.table.now in
    let d = plain (member_key_of c.args.key.now) c.args.is_static in
    let init = option_map expr_of c.args.init.now in
    let front = c.args.types.now in
    let ps = put_leaves 2 (put_leaves c.args.modifiers none) in
    let more = c.in_ok-put_initializer.ensures.slots ∙ ap (λ e. c.put_front.new.types ++ maybe_slots rows e init) c.plain_place-place.ensures.context in
    within front (put_maybe rows d ps init) _ _ (add_more front ps (put_maybe rows d ps init) _ _ _ (maybe_flats rows d ps init) c.in_ok-first.ensures.slots more) c.count-before.ensures
