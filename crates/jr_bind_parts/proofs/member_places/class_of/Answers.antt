use Rattle.std.proofs.Common.{ℕ, ◌<◌, length, sym, ap, subst, ◌∙◌}
use Rattle.std.proofs.lemmas.Option.{slice_get-get_or}
use Rattle.std.specs.Prelude.{slice_get}
use Rattle.jr_table.proofs.RowLaws.{as_many}
use Rattle.jr_bind_parts.proofs.ParamSteps.{class_here}
use Rattle.jr_bind_parts.proofs.member_places.class_of.Goals as goal

pub bounds-entries-row : goal.bounds-entries-row
bounds-entries-row c = subst (λ (n : ℕ). c.args.row < n) (sym (ap length c.entries.ensures ∙ as_many c.args.table.now)) c.requires

pub bounds-entries-row-2 : goal.bounds-entries-row-2
bounds-entries-row-2 c = subst (λ (n : ℕ). c.args.row < n) (sym (ap length c.entries.ensures ∙ as_many c.args.table.now)) c.requires

pub returns : goal.returns
returns c = λ k at.
    let inside : c.args.row < length c.entries.result.now = subst (λ (n : ℕ). c.args.row < n) (sym (ap length c.entries.ensures ∙ as_many c.args.table.now)) c.requires in
    class_here c.args.table.now c.keeps_rows.ensures k c.args.row _ at (ap (λ xs. slice_get xs c.args.row) (sym c.entries.ensures) ∙ slice_get-get_or c.entries.result.now c.args.row c.index-entries-row.result inside)
