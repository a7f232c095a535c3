use Rattle.std.proofs.Common.{ℕ, ◌++◌, Option, sym, ap, subst, ◌∙◌}
use Rattle.std.proofs.lemmas.Result.{IfOk-weaker}
use Rattle.std.proofs.lemmas.List.{append-nil}
use Rattle.std.specs.Prelude.{option_map, is_some}
use Rattle.jr_ast.specs.declared.exprs.Expr.{Expr}
use Rattle.jr_ast.specs.View.{expr_of}
use Rattle.jr_table.specs.Notes.{returned_type, when, breaks}
use Rattle.jr_table.specs.Walks as walks
use Rattle.jr_table.specs.declared.rules.Rule.TheVariants as rule
use Rattle.jr_bind_expr.specs.Places.{context_of, member_of}
use Rattle.jr_bind_expr.specs.Logs.{notes_of, Adds}
use Rattle.jr_bind_parts.specs.StmtArms as pure
use Rattle.jr_bind_expr.proofs.Adding.{adds_exact}
use Rattle.jr_bind_parts.proofs.StmtArming.{none_due}
use Rattle.jr_bind_parts.proofs.stmt_parts.return_value.Goals as goal

pub returns-in-None-clause-notes : goal.returns-in-None-clause-notes
unfolding context_of
returns-in-None-clause-notes g c =
    let B = λ (m : g.row.A.Denot) (b : ℕ). (g.A.Mark.span_from m b).from in
    let rows = c.args.table.now in
    let p = c.args.place.now in
    let k = member_of p in
    let at = c.args.at in
    let old = notes_of rows k c.args.log.now.items in
    let new = notes_of rows k c.put_no_value.new.log.items in
    let due = returned_type rows k in
    let own = ap (λ d. when (is_some d) (breaks at rule.ReturnForm)) c.due.ensures ∙ none_due rows at due in
    IfOk-weaker c.put_no_value.result _ _ (λ u h.
    subst (λ (o : Option (Expr g.row.A.Denot)). Adds old (pure.returned_notes B rows (context_of p) at (option_map expr_of o) ++ walks.maybe_notes B rows (context_of p) at (option_map expr_of o)) new) (sym c.in-None.is)
    (adds_exact old _ new (h ∙ ap (λ ns. old ++ ns) (own ∙ sym (append-nil (when (is_some due) (breaks at rule.ReturnForm))))))) c.put_no_value.ensures
