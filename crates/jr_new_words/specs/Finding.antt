-- The one declaration that is found, if it is one.
use Rattle.std.specs.Prelude.{Option, Some, None}
use Rattle.jr_table.specs.Decls.{Decl}
use Rattle.jr_table.specs.Found.{Found, one, nothing, many, not_accessible, from_static}

abbrev pub decl_found : Found → Option Decl
decl_found (one d) = Some d
decl_found _ = None

-- what is found, if it is not nothing
abbrev pub something : Found → Option Found
something (one d) = Some (one d)
something nothing = None
something (many d e) = Some (many d e)
something (not_accessible d) = Some (not_accessible d)
something (from_static d) = Some (from_static d)
