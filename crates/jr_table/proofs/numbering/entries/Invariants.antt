use Rattle.std.proofs.Common.{◌≡◌, map, take}
use Rattle.jr_table.specs.RowView.{row_of}
use Rattle.jr_table.specs.Entries.{entry_of}
use Rattle.jr_table.proofs.numbering.entries.Given as goal

abbrev pub invariant-loop-row : goal.invariant-loop-row
invariant-loop-row l = l.entries.items ≡ map (entry_of (map row_of l.rows)) (map row_of (take l.row-index l.rows))
