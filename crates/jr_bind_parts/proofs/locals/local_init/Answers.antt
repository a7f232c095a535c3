use Rattle.std.proofs.Common.{ℕ, List, ◌++◌, ap, subst, ◌∙◌}
use Rattle.std.proofs.lemmas.Result.{IfOk-weaker}
use Rattle.jr_ast.specs.View.{expr_of}
use Rattle.jr_table.specs.Entries.{entries_of}
use Rattle.jr_table.specs.Binding.{value}
use Rattle.jr_table.specs.Notes.{Note}
use Rattle.jr_table.specs.Walks as walks
use Rattle.jr_bind_expr.specs.Places.{context_of, member_of}
use Rattle.jr_bind_expr.specs.Logs.{notes_of, Adds}
use Rattle.jr_bind_parts.specs.StmtArms as pure
use Rattle.jr_bind_expr.proofs.Adding.{adds_exact, adds_before}
use Rattle.jr_bind_expr.proofs.Rowing.{rowed}
use Rattle.jr_bind_parts.proofs.StmtArming.{init_is}
use Rattle.jr_bind_parts.proofs.locals.local_init.Goals as goal

pub returns-clause-notes : goal.returns-clause-notes
returns-clause-notes g c =
    let B = λ (m : g.row.A.Denot) (b : ℕ). (g.A.Mark.span_from m b).from in
    let rows = c.args.table.now in
    let p = c.args.place.now in
    let k = member_of p in
    let at = c.args.at in
    let e = expr_of c.args.of.now in
    let old = notes_of rows k c.args.log.now.items in
    let means = c.in_ok-value.ensures.means in
    IfOk-weaker c.put_init.result _ _ (λ u h t r is.
    subst (λ (ns : List Note). Adds old (ns ++ walks.notes_of B rows (context_of p) value at e) (notes_of rows k c.put_init.new.log.items))
    (ap (λ d. pure.init_notes (entries_of rows) d c.in_ok-value.value) is ∙ init_is B rows (context_of p) at e c.in_ok-value.value means t (rowed rows c.keeps_rows.ensures p c.requires.knows e) r)
    (adds_before _ _ _ _ _ c.in_ok-value.ensures.notes (adds_exact _ _ _ h))) c.put_init.ensures
