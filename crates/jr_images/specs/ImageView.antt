-- The pure value of declarations that get a name.
use Rattle.jr_images.specs.declared.images.NewName as raw
use Rattle.jr_images.specs.Images.{Renaming}

abbrev pub renaming_of : raw.NewName → Renaming
renaming_of g = record { decls = g.decls; name = g.name }
