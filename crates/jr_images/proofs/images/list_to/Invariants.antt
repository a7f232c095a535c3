use Rattle.std.proofs.Common.{◌≡◌, map, take}
use Rattle.jr_table.specs.TypeView.{ty_of}
use Rattle.jr_images.specs.Images.{type_to}
use Rattle.jr_images.specs.ImageView.{renaming_of}
use Rattle.jr_images.proofs.images.list_to.Given as goal

abbrev pub invariant-loop-ty : goal.invariant-loop-ty
invariant-loop-ty l = map ty_of l.images.items ≡ map (λ x. type_to (renaming_of l.g) (ty_of x)) (take l.ty-index l.types)
