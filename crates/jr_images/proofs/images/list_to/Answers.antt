use Rattle.std.proofs.Common.{map, ap, ◌∙◌, take_all}
use Rattle.jr_table.specs.TypeView.{ty_of}
use Rattle.jr_images.specs.Images.{type_to}
use Rattle.jr_images.specs.ImageView.{renaming_of}
use Rattle.jr_images.proofs.Imaging.{map_twice}
use Rattle.jr_images.proofs.images.list_to.Goals as goal

pub returns : goal.returns
returns c = c.loop-ty.invariant ∙ ap (map (λ x. type_to (renaming_of c.args.g.now) (ty_of x))) (take_all _ _ c.loop-ty-test.false) ∙ map_twice (type_to (renaming_of c.args.g.now)) ty_of c.args.types.now
