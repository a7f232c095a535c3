use Rattle.std.proofs.Common.{map, ap, ◌∙◌, take_all}
use Rattle.jr_table.specs.RowView.{row_of}
use Rattle.jr_images.specs.Images.{row_to}
use Rattle.jr_images.specs.ImageView.{renaming_of}
use Rattle.jr_images.proofs.Imaging.{map_twice}
use Rattle.jr_images.proofs.images.rows_to.Goals as goal

pub returns : goal.returns
returns c = c.loop-old.invariant ∙ ap (map (λ x. row_to (renaming_of c.args.g.now) (row_of x))) (take_all _ _ c.loop-old-test.false) ∙ map_twice (row_to (renaming_of c.args.g.now)) row_of c.args.rows.now
