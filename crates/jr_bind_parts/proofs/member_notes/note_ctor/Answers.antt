use Rattle.std.proofs.Common.{◌≡◌, ℕ, ◌++◌, Some, None, true, false, map, length, refl, ap, subst, ◌∙◌, arith}
use Rattle.std.proofs.lemmas.Result.{IfOk-weaker}
use Rattle.jr_text.specs.declared.spans.Span.{Span}
use Rattle.jr_ast.specs.View.{word_of, param_of, args_of, stmts_of}
use Rattle.jr_table.specs.Decls.{MemberKey, class_decl}
use Rattle.jr_table.specs.KeyView.{member_key_of}
use Rattle.jr_table.specs.Entries.{number_of, class_of_member}
use Rattle.jr_table.specs.HeadRules.{plain, with_parameters}
use Rattle.jr_table.specs.Walks.{super_args_notes}
use Rattle.jr_bind_parts.specs.Flow.{BodyPasses}
use Rattle.jr_bind_parts.specs.Parameters.{in_instance}
use Rattle.jr_bind_expr.specs.Logs.{notes_of, Adds}
use Rattle.jr_bind_parts.specs.Supers.{super_notes}
use Rattle.jr_bind_expr.proofs.Scoped.{class_is}
use Rattle.jr_bind_parts.proofs.Statics.{map_count}
use Rattle.jr_bind_parts.proofs.Parting.{member_here, adds_at, body_adds, ctor_whole}
use Rattle.jr_expr_types.specs.Trees.{none}
use Rattle.jr_expr_types.specs.TypedTrees.{put_leaves, put_args, put_stmts}
use Rattle.jr_bind_parts.specs.TypedFlow.{args_slots, body_slots}
use Rattle.jr_bind_expr.proofs.Oks.{IfOk-any}
use Rattle.jr_bind_expr.proofs.TypedParts.{close, within}
use Rattle.jr_bind_parts.proofs.TypedPassing.{add_more, body_flats, body_counted, body_length}
use Rattle.jr_bind_parts.proofs.TypedDeclaring.{args_flats, args_counted}
use Rattle.jr_bind_parts.proofs.member_notes.note_ctor.Goals as goal

pub returns-clause-notes : goal.returns-clause-notes
returns-clause-notes g c =
    let B = λ (m : g.row.A.Denot) (b : ℕ). (g.A.Mark.span_from m b).from in
    let rows = c.args.table.now in
    let k = member_key_of c.args.key.now in
    let at = c.args.at in
    let w = word_of c.args.name.now in
    let ps = map param_of c.args.params.now in
    let args = args_of c.args.args.now in
    let body = stmts_of c.args.body.now in
    let first = c.put_params.new.log.items in
    let second = c.put_super.new.log.items in
    let new = c.stmts.new.log.items in
    let p = c.in_ok-place.place in
    let here = c.in_ok-place.ensures.context in
    let class = class_is rows (class_of_member k) p.class (subst (λ (m : MemberKey). number_of rows (class_decl (class_of_member m)) ≡ Some p.class) (member_here p (with_parameters k true ps) here) c.in_ok-place.ensures.knows.class) in
    let called = adds_at B rows k p (with_parameters k true ps) here refl (λ d. super_notes rows d c.args.super_at c.span-at_name.result.from args ++ super_args_notes B rows d at args) first second c.in_ok-put_super.ensures.notes in
    let named = subst (λ (n : ℕ). Adds (notes_of rows k first) (super_notes rows (with_parameters k true ps) c.args.super_at n args ++ super_args_notes B rows (with_parameters k true ps) at args) (notes_of rows k second)) (ap (λ (z : Span). z.from) c.span-at_name.ensures) called in
    let many = c.in_ok-number.ensures ∙ map_count param_of c.args.params.now in
    let passes : BodyPasses B rows c.in_ok-number.number c.make_instance.new.place at body second c.in_ok-stmts.field-0 c.stmts.new.place new = c.in_ok-stmts.ensures.passes in
    let walked = body_adds B rows k c.make_instance.new.place c.stmts.new.place false ps c.in_ok-number.number at body c.in_ok-stmts.field-0 second new (c.make_instance.ensures.context ∙ ap in_instance here) many passes in
    IfOk-any c.close.result _ (ctor_whole B rows k c.args.super_at at w ps args body c.args.log.now.items first second new (c.in_ok-put_params.ensures k (plain k false) class) named walked)

pub stmts-requires-clause-knows : goal.stmts-requires-clause-knows
stmts-requires-clause-knows g c = c.make_instance.ensures.knows c.args.table.now c.in_ok-place.ensures.knows

pub returns-clause-slots : goal.returns-clause-slots
returns-clause-slots g c =
    let rows = c.args.table.now in
    let k = member_key_of c.args.key.now in
    let params = map param_of c.args.params.now in
    let n = length c.args.params.now in
    let args = args_of c.args.args.now in
    let body = stmts_of c.args.body.now in
    let front = c.args.types.now in
    let ps = put_leaves n (put_leaves 1 (put_leaves c.args.modifiers none)) in
    let qs = put_args rows (with_parameters k true params) ps args in
    let all = put_stmts rows qs n (with_parameters k false params) body in
    let here = c.in_ok-place.ensures.context in
    let more = c.in_ok-put_super.ensures.slots ∙ ap (λ e. c.put_front.new.types ++ args_slots rows e args) here in
    let h = add_more front ps qs _ _ _ (args_flats rows (with_parameters k true params) ps args) c.in_ok-front.ensures.slots more in
    let there = c.make_instance.ensures.context ∙ ap in_instance here in
    let rest = c.in_ok-stmts.ensures.slots ∙ (λ i. c.put_super.new.types ++ body_slots rows (c.in_ok-number.ensures i) (there i) body) in
    let j = add_more front qs all _ _ _ (body_flats rows n (with_parameters k false params) qs body) h rest in
    let one = c.in_ok-front.ensures.count in
    let own = c.super_parts.ensures in
    let two = c.in_ok-first.ensures in
    let long = body_length c.args.body.now in
    let sum = c.in_ok-parts.ensures in
    let args_many = args_counted rows (with_parameters k true params) ps args in
    let many = body_counted rows n (with_parameters k false params) qs body in
    IfOk-weaker c.close.result _ _ (λ u e. close front all None _ _ _ _ j c.count-before.ensures (omega (arith, one, own, two, long, sum, args_many, many)) e) c.close.ensures

pub close-requires : goal.close-requires
close-requires g c =
    let rows = c.args.table.now in
    let k = member_key_of c.args.key.now in
    let params = map param_of c.args.params.now in
    let n = length c.args.params.now in
    let args = args_of c.args.args.now in
    let body = stmts_of c.args.body.now in
    let front = c.args.types.now in
    let ps = put_leaves n (put_leaves 1 (put_leaves c.args.modifiers none)) in
    let qs = put_args rows (with_parameters k true params) ps args in
    let all = put_stmts rows qs n (with_parameters k false params) body in
    let here = c.in_ok-place.ensures.context in
    let more = c.in_ok-put_super.ensures.slots ∙ ap (λ e. c.put_front.new.types ++ args_slots rows e args) here in
    let h = add_more front ps qs _ _ _ (args_flats rows (with_parameters k true params) ps args) c.in_ok-front.ensures.slots more in
    let there = c.make_instance.ensures.context ∙ ap in_instance here in
    let rest = c.in_ok-stmts.ensures.slots ∙ (λ i. c.put_super.new.types ++ body_slots rows (c.in_ok-number.ensures i) (there i) body) in
    let j = add_more front qs all _ _ _ (body_flats rows n (with_parameters k false params) qs body) h rest in
    within front all _ _ j c.count-before.ensures
