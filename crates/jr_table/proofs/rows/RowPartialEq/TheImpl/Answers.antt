use Rattle.std.proofs.lemmas.Bool.Decides.{same_from_decides}
use Rattle.jr_table.specs.RowView.{row_of}
use Rattle.jr_table.specs.SameRows.{same_row, row_decides}
use Rattle.jr_table.proofs.rows.RowPartialEq.TheImpl.Goals as goal

pub eq-tells : goal.eq-tells
eq-tells c =
    let left = row_of c.args.self.now in
    let right = row_of c.args.other.now in
    same_from_decides c.result (same_row left right) c.ensures (row_decides left right)
