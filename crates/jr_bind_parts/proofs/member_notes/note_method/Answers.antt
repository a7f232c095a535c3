use Rattle.std.proofs.Common.{◌≡◌, ℕ, ◌++◌, None, map, length, ap, subst, ◌∙◌, arith}
use Rattle.std.proofs.lemmas.Result.{IfOk-weaker}
use Rattle.std.specs.Prelude.{option_map}
use Rattle.jr_ast.specs.View.{word_of, type_of, param_of, stmts_of}
use Rattle.jr_table.specs.Decls.{MemberKey}
use Rattle.jr_table.specs.KeyView.{member_key_of}
use Rattle.jr_table.specs.HeadRules.{with_parameters}
use Rattle.jr_bind_parts.specs.Flow.{BodyPasses}
use Rattle.jr_bind_expr.specs.Logs.{notes_of}
use Rattle.jr_bind_parts.specs.DeclarationArms as arms
use Rattle.jr_bind_parts.proofs.Statics.{map_count}
use Rattle.jr_bind_parts.proofs.Parting.{member_here, body_adds, method_whole}
use Rattle.jr_expr_types.specs.Trees.{none, count, flats}
use Rattle.jr_expr_types.specs.TypedTrees.{put_leaves, put_stmts}
use Rattle.jr_bind_parts.specs.TypedFlow.{named_count, body_slots}
use Rattle.jr_bind_expr.proofs.Oks.{IfOk-any}
use Rattle.jr_bind_expr.proofs.TypedParts.{close, within}
use Rattle.jr_bind_parts.proofs.TypedPassing.{add_more, body_flats, body_counted, body_length}
use Rattle.jr_bind_parts.proofs.member_notes.note_method.Goals as goal

pub returns-clause-notes : goal.returns-clause-notes
returns-clause-notes g c =
    let B = λ (m : g.row.A.Denot) (b : ℕ). (g.A.Mark.span_from m b).from in
    let rows = c.args.table.now in
    let k = member_key_of c.args.key.now in
    let s = c.args.is_static in
    let at = c.args.at in
    let t = option_map type_of c.args.ret.now in
    let w = word_of c.args.name.now in
    let ps = map param_of c.args.params.now in
    let body = stmts_of c.args.body.now in
    let old = c.args.log.now.items in
    let mid = c.stmts.new.log.items in
    let new = c.put_declared_method.new.log.items in
    let p = c.in_ok-place.place in
    let q = c.stmts.new.place in
    let b = c.in_ok-behind.behind in
    let many = c.in_ok-number.ensures ∙ map_count param_of c.args.params.now in
    let passes : BodyPasses B rows c.in_ok-number.number p at body old b q mid = c.in_ok-behind.ensures.passes in
    let walked = body_adds B rows k p q s ps c.in_ok-number.number at body b old mid c.in_ok-place.ensures.context many passes in
    let same = member_here q (with_parameters k s ps) (passes.context ∙ c.in_ok-place.ensures.context) in
    IfOk-weaker c.put_declared_method.result _ _ (λ u h.
    method_whole B rows k at s t w ps body b.completes old mid new walked passes.completes_is
    (subst (λ (m : MemberKey). notes_of rows m new ≡ notes_of rows m mid ++ arms.method_notes B rows m at t w ps b.completes) same h)) c.put_declared_method.ensures

pub returns-clause-slots : goal.returns-clause-slots
returns-clause-slots g c =
    let rows = c.args.table.now in
    let d = with_parameters (member_key_of c.args.key.now) c.args.is_static (map param_of c.args.params.now) in
    let n = length c.args.params.now in
    let body = stmts_of c.args.body.now in
    let front = c.args.types.now in
    let ps = put_leaves n (put_leaves (named_count (option_map type_of c.args.ret.now)) (put_leaves c.args.modifiers none)) in
    let qs = put_stmts rows ps n d body in
    let first = c.in_ok-first.ensures.slots ∙ ap (λ k. front ++ flats (put_leaves n (put_leaves k (put_leaves c.args.modifiers none)))) c.named_parts.ensures in
    let more = c.in_ok-behind.ensures.slots ∙ (λ i. c.put_front.new.types ++ body_slots rows (c.in_ok-number.ensures i) (c.in_ok-place.ensures.context i) body) in
    let h = add_more front ps qs _ _ _ (body_flats rows n d ps body) first more in
    let here = c.in_ok-first.ensures.count ∙ ap (λ k. count (put_leaves n (put_leaves k (put_leaves c.args.modifiers none)))) c.named_parts.ensures in
    let long = body_length c.args.body.now in
    let sum = c.in_ok-parts.ensures in
    let many = body_counted rows n d ps body in
    IfOk-any c.put_declared_method.result _ (close front qs None _ _ _ _ h c.count-before.ensures (omega (arith, here, long, sum, many)) c.in_ok-close.ensures)

pub close-requires : goal.close-requires
close-requires g c =
    let rows = c.args.table.now in
    let d = with_parameters (member_key_of c.args.key.now) c.args.is_static (map param_of c.args.params.now) in
    let n = length c.args.params.now in
    let body = stmts_of c.args.body.now in
    let front = c.args.types.now in
    let ps = put_leaves n (put_leaves (named_count (option_map type_of c.args.ret.now)) (put_leaves c.args.modifiers none)) in
    let qs = put_stmts rows ps n d body in
    let first = c.in_ok-first.ensures.slots ∙ ap (λ k. front ++ flats (put_leaves n (put_leaves k (put_leaves c.args.modifiers none)))) c.named_parts.ensures in
    let more = c.in_ok-behind.ensures.slots ∙ (λ i. c.put_front.new.types ++ body_slots rows (c.in_ok-number.ensures i) (c.in_ok-place.ensures.context i) body) in
    let h = add_more front ps qs _ _ _ (body_flats rows n d ps body) first more in
    within front qs _ _ h c.count-before.ensures
