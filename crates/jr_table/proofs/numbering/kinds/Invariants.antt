use Rattle.std.proofs.Common.{◌≡◌, map, take}
use Rattle.jr_table.specs.TypeView.{ty_of}
use Rattle.jr_table.specs.RowView.{row_of}
use Rattle.jr_table.specs.Entries.{kind_of}
use Rattle.jr_table.proofs.numbering.kinds.Given as goal

abbrev pub invariant-loop-ty : goal.invariant-loop-ty
invariant-loop-ty l = l.kinds.items ≡ map (kind_of (map row_of l.rows)) (map ty_of (take l.ty-index l.tys))
