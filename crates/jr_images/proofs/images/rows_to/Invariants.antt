use Rattle.std.proofs.Common.{◌≡◌, map, take}
use Rattle.jr_table.specs.RowView.{row_of}
use Rattle.jr_images.specs.Images.{row_to}
use Rattle.jr_images.specs.ImageView.{renaming_of}
use Rattle.jr_images.proofs.images.rows_to.Given as goal

abbrev pub invariant-loop-old : goal.invariant-loop-old
invariant-loop-old l = map row_of l.images.items ≡ map (λ x. row_to (renaming_of l.g) (row_of x)) (take l.old-index l.rows)
