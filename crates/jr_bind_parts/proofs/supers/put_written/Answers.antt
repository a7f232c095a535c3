use Rattle.std.proofs.Common.{ℕ, [], ◌∷◌, ◌++◌, ap, ◌∙◌}
use Rattle.std.proofs.lemmas.Result.{IfOk-weaker}
use Rattle.jr_ast.specs.View.{exprs_of}
use Rattle.jr_table.specs.Binding as sought
use Rattle.jr_table.specs.Found.{Found}
use Rattle.jr_table.specs.Meanings.{types_of}
use Rattle.jr_table.specs.Notes.{found_note}
use Rattle.jr_table.specs.Walks.{args_notes}
use Rattle.jr_bind_expr.specs.Places.{context_of, member_of}
use Rattle.jr_bind_expr.specs.Logs.{notes_of}
use Rattle.jr_bind_parts.specs.Supers.{written_notes}
use Rattle.jr_bind_expr.proofs.Adding.{adds_exact, adds_before}
use Rattle.jr_bind_parts.proofs.supers.put_written.Goals as goal

pub returns-clause-notes : goal.returns-clause-notes
unfolding context_of
returns-clause-notes g c =
    let B = λ (m : g.row.A.Denot) (b : ℕ). (g.A.Mark.span_from m b).from in
    let rows = c.args.table.now in
    let p = c.args.place.now in
    let k = member_of p in
    let d = context_of p in
    let args = exprs_of c.args.args.now in
    let old = notes_of rows k c.args.log.now.items in
    let mid = notes_of rows k c.walk_args.new.log.items in
    let found = c.in_ok-answer.ensures d (types_of rows d args) c.requires.knows.class c.in_ok-kinds.ensures.kinds in
    IfOk-weaker c.put_method.result _ _ (λ u h.
    adds_before old mid (notes_of rows k c.put_method.new.log.items) (args_notes B rows d c.args.at args) (written_notes rows d c.args.super_at args) c.in_ok-kinds.ensures.notes
    (adds_exact mid _ _ (h ∙ ap (λ (f : Found). mid ++ found_note c.args.super_at sought.method f ∷ []) found))) c.put_method.ensures
