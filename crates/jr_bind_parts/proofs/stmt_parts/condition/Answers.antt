use Rattle.std.proofs.Common.{ℕ, List, ◌++◌, subst}
use Rattle.std.proofs.lemmas.Result.{IfOk-weaker}
use Rattle.jr_ast.specs.View.{expr_of}
use Rattle.jr_table.specs.Binding.{value}
use Rattle.jr_table.specs.Notes.{Note}
use Rattle.jr_table.specs.Walks as walks
use Rattle.jr_bind_expr.specs.Places.{context_of, member_of}
use Rattle.jr_bind_expr.specs.Logs.{notes_of, Adds}
use Rattle.jr_bind_expr.proofs.Adding.{adds_exact, adds_before}
use Rattle.jr_bind_parts.proofs.StmtArming.{checked_is}
use Rattle.jr_bind_parts.proofs.stmt_parts.condition.Goals as goal

pub returns-clause-notes : goal.returns-clause-notes
returns-clause-notes g c =
    let B = λ (m : g.row.A.Denot) (b : ℕ). (g.A.Mark.span_from m b).from in
    let rows = c.args.table.now in
    let p = c.args.place.now in
    let k = member_of p in
    let at = c.args.at in
    let e = expr_of c.args.of.now in
    let old = notes_of rows k c.args.log.now.items in
    let means = c.in_ok-value.ensures.means in
    let own = checked_is B rows (context_of p) at e c.in_ok-value.value means in
    IfOk-weaker c.put_condition.result _ _ (λ u h.
    subst (λ (ns : List Note). Adds old (ns ++ walks.notes_of B rows (context_of p) value at e) (notes_of rows k c.put_condition.new.log.items)) own
    (adds_before _ _ _ _ _ c.in_ok-value.ensures.notes (adds_exact _ _ _ h))) c.put_condition.ensures
