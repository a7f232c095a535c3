use Rattle.std.proofs.Common.{ℕ, ◌++◌, Option, sym, subst}
use Rattle.std.proofs.lemmas.Result.{IfOk-weaker}
use Rattle.std.specs.Prelude.{option_map}
use Rattle.jr_ast.specs.declared.exprs.Expr.{Expr}
use Rattle.jr_ast.specs.View.{expr_of}
use Rattle.jr_table.specs.HeadRules.{plain}
use Rattle.jr_table.specs.HeadNotes.{init_notes}
use Rattle.jr_table.specs.Walks.{maybe_notes}
use Rattle.jr_bind_expr.specs.Logs.{notes_of, Adds}
use Rattle.jr_bind_parts.proofs.initializers.put_initializer.Goals as goal

pub returns-in-Some-clause-notes : goal.returns-in-Some-clause-notes
returns-in-Some-clause-notes g c = λ k s here.
    let B = λ (m : g.row.A.Denot) (b : ℕ). (g.A.Mark.span_from m b).from in
    let rows = c.args.table.now in
    let at = c.args.at in
    let old = notes_of rows k c.args.log.now.items in
    let new = notes_of rows k c.put_assigned.new.log.items in
    IfOk-weaker c.put_assigned.result _ _ (λ u h.
    subst (λ (o : Option (Expr g.row.A.Denot)). Adds old (init_notes B rows k s at (option_map expr_of o) ++ maybe_notes B rows (plain k s) at (option_map expr_of o)) new) (sym c.in-Some.is) h) (c.put_assigned.ensures.notes k s here)
