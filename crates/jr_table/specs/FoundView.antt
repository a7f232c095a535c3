-- The pure answer that an answer stands for.
use Rattle.jr_table.specs.declared.found.Found as raw
use Rattle.jr_table.specs.declared.found.Found.TheVariants as shown
use Rattle.jr_table.specs.Found.{Found, one, nothing, many, not_accessible, from_static}
use Rattle.jr_table.specs.KeyView.{decl_of}

abbrev pub found_of : raw.Found → Found
found_of (shown.One d) = one (decl_of d)
found_of shown.Nothing = nothing
found_of (shown.Many d e) = many (decl_of d) (decl_of e)
found_of (shown.NotAccessible d) = not_accessible (decl_of d)
found_of (shown.FromStatic d) = from_static (decl_of d)
