use Rattle.jr_table.specs.RowView.{row_of}
use Rattle.jr_bind_parts.proofs.Above.{no_entry, no_row, overriding_is}
use Rattle.jr_bind_parts.proofs.overriding.overrides_badly.Goals as goal

pub returns-in_default : goal.returns-in_default
returns-in_default c = no_entry c.args.table.now c.args.number c.in_default.ensures

pub returns-in_default-row_at : goal.returns-in_default-row_at
returns-in_default-row_at c = no_row c.args.table.now c.args.number c.in_default-row_at.ensures

pub returns : goal.returns
returns c =
    overriding_is c.args.table.now c.args.number c.keeps_rows.ensures c.in-Some.entry.now (row_of c.in-Some-row_at.own.now) c.as_str.result.now c.as_slice.result.now c.clashes_above.result
    c.in-Some.ensures c.in-Some-row_at.ensures c.as_str.ensures c.as_slice.ensures c.clashes_above.ensures
