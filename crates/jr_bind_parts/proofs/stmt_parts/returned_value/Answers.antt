use Rattle.std.proofs.Common.{ℕ, List, ◌++◌, ap, subst, ◌∙◌}
use Rattle.std.proofs.lemmas.Result.{IfOk-weaker}
use Rattle.jr_ast.specs.View.{expr_of}
use Rattle.jr_table.specs.Binding.{value}
use Rattle.jr_table.specs.Notes.{Note}
use Rattle.jr_table.specs.Walks as walks
use Rattle.jr_bind_expr.specs.Places.{context_of, member_of}
use Rattle.jr_bind_expr.specs.Logs.{notes_of, Adds}
use Rattle.jr_bind_parts.specs.StmtArms as pure
use Rattle.jr_bind_expr.proofs.Adding.{adds_exact, adds_before}
use Rattle.jr_table.specs.Entries.{entries_of}
use Rattle.jr_table.specs.Notes.{returned_type}
use Rattle.jr_bind_expr.proofs.Rowing.{rowed}
use Rattle.jr_bind_parts.proofs.StmtArming.{returned_is, returned_rowed}
use Rattle.jr_bind_parts.proofs.stmt_parts.returned_value.Goals as goal

pub returns-clause-notes : goal.returns-clause-notes
unfolding context_of
returns-clause-notes g c =
    let B = λ (m : g.row.A.Denot) (b : ℕ). (g.A.Mark.span_from m b).from in
    let rows = c.args.table.now in
    let p = c.args.place.now in
    let k = member_of p in
    let at = c.args.at in
    let e = expr_of c.args.of.now in
    let old = notes_of rows k c.args.log.now.items in
    let means = c.in_ok-value.ensures.means in
    let are = c.keeps_rows.ensures in
    let due = returned_type rows k in
    let own = ap (λ d. pure.value_notes (entries_of rows) at d c.in_ok-value.value) c.due.ensures
    ∙ returned_is B rows (context_of p) at e c.in_ok-value.value means at due (rowed rows are p c.requires.knows e) (returned_rowed rows are k) in
    IfOk-weaker c.put_value.result _ _ (λ u h.
    subst (λ (ns : List Note). Adds old (ns ++ walks.notes_of B rows (context_of p) value at e) (notes_of rows k c.put_value.new.log.items)) own
    (adds_before _ _ _ _ _ c.in_ok-value.ensures.notes (adds_exact _ _ _ h))) c.put_value.ensures
