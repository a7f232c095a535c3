use Rattle.std.proofs.Common.{map, ap, ◌∙◌}
use Rattle.std.specs.Cmp.Lexicographic.{pointwise, pointwise_decides}
use Rattle.jr_table.specs.RowView.{row_of}
use Rattle.jr_table.specs.SameRows.{same_row, row_decides}
use Rattle.jr_table.proofs.SameArms.{told}
use Rattle.jr_table.proofs.SameLists.{pointwise-on}
use Rattle.jr_table.proofs.tables.Table.has_rows.Goals as goal

pub returns : goal.returns
returns c =
    let rows = map row_of c.args.rows.now in
    let first = ap (λ xs. pointwise same_row (map row_of xs) rows) c.as_slice.ensures.value in
    let is = c.eq.ensures ∙ pointwise-on row_of same_row c.as_slice.result.now c.args.rows.now ∙ first ∙ ap (λ xs. pointwise same_row xs rows) c.self.view_is in
    told c.eq.result (pointwise same_row c.args.self.now rows) is (pointwise_decides row_decides c.args.self.now rows)
