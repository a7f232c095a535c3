use Rattle.std.proofs.Common.{◌++◌, ℕ, None, ap, subst, sym, ◌∙◌}
use Rattle.jr_ast.specs.View.{word_of, type_of, expr_of}
use Rattle.jr_bind_parts.specs.declared.completing.Behind.{Behind}
use Rattle.jr_bind_parts.specs.StmtArms.{LocalPasses}
use Rattle.jr_expr_types.specs.Trees.{none, flat}
use Rattle.jr_expr_types.specs.TypedTrees.{leaf, put_leaf, exp_tree}
use Rattle.jr_table.specs.Context.{in_own, local_of}
use Rattle.jr_bind_expr.specs.Places.{context_of}
use Rattle.jr_bind_expr.proofs.TypedParts.{start, add}
use Rattle.jr_bind_parts.proofs.LocalSteps.{with_held, local_whole}
use Rattle.jr_bind_parts.proofs.locals.local.Goals as goal

pub returns-clause-passes : goal.returns-clause-passes
returns-clause-passes g c =
    let B = λ (m : g.row.A.Denot) (b : ℕ). (g.A.Mark.span_from m b).from in
    let rows = c.args.table.now in
    let p = c.args.place.now in
    let q = c.declare.new.place in
    let t = type_of c.args.ty.now in
    let w = word_of c.args.name.now in
    let e = expr_of c.args.init.now in
    let old = c.args.log.now.items in
    subst (λ (b : Behind). LocalPasses B rows p c.args.at c.args.number c.args.is_final t w e old b (with_held q q.locals None) c.local_init.new.log.items) (sym c.reachable_from.ensures)
    (local_whole B rows c.keeps_rows.ensures p q c.args.at c.args.number c.args.is_final t w e c.in_ok-kind.kind c.in_ok-next.next old c.local_head.new.log.items c.local_init.new.log.items
    c.in_ok-next.ensures c.in_ok-kind.ensures.kind c.in_ok-kind.ensures.notes c.in_ok-declare.ensures.context c.in_ok-declare.ensures.knows c.in_ok-local_init.ensures.notes)

pub returns-clause-slots : goal.returns-clause-slots
returns-clause-slots g c =
    let rows = c.args.table.now in
    let d = context_of c.args.place.now in
    let front = c.args.types.now in
    let e = expr_of c.args.init.now in
    let inner = exp_tree rows (in_own d (local_of d c.args.number c.args.is_final (type_of c.args.ty.now) (word_of c.args.name.now))) e in
    let one = add front none leaf _ _ (start front) c.in_ok-put_leaf.ensures in
    let two = add front (put_leaf none) leaf _ _ one c.in_ok-put_leaf-2.ensures in
    add front (put_leaf (put_leaf none)) inner _ _ two (c.in_ok-local_init.ensures.slots ∙ ap (λ x. c.put_leaf-2.new.types ++ flat (exp_tree rows x e)) c.in_ok-declare.ensures.context)
