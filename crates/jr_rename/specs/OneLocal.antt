-- Nothing but one local or parameter is renamed.
use Rattle.std.specs.Prelude.{◌≡◌, [], ◌∷◌}
use Rattle.jr_table.specs.Decls.{Decl, LocalKey, local_decl}
use Rattle.jr_images.specs.Images.{Renaming}

abbrev pub IsLocal : Decl → Type 0
IsLocal d = (k : LocalKey) × (d ≡ local_decl k)

abbrev pub IsOfOneLocal : Renaming → Type 0
IsOfOneLocal g = (k : LocalKey) × (g.decls ≡ local_decl k ∷ [])
