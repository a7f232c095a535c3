-- How places, sites and what a lookup finds are written.
use Rattle.std.specs.Prelude.{ℕ, List, [], ◌++◌, Option, Some, None, codes, decimal, slice_index_or}
use Rattle.jr_text.specs.declared.spans.Place.{Place}
use Rattle.jr_sync.specs.declared.kinds.Kind.{Kind}
use Rattle.jr_sync.specs.declared.kinds.Kind.TheVariants.{Load, Store, VolatileLoad, VolatileStore}
use Rattle.jr_sync.specs.declared.kinds.Kind.TheVariants.{Enter, Exit, Still}
use Rattle.jr_sync.specs.declared.sites.Site.{Site}
use Rattle.jr_sync.specs.declared.sites.Site.TheVariants.{Read, Write, Access, Check, Call, Loop}
use Rattle.jr_table.specs.Keys.{FieldKey}
use Rattle.jr_table.specs.Decls.{LocalKey}
use Rattle.jr_table.specs.Found.{Found, one, nothing, many, not_accessible, from_static}
use Rattle.jr_names.specs.Sites.{SiteAt}
use Rattle.jr_names.specs.DeclTexts.{field_text, local_text, decl_text}

-- `FILE:AT`
abbrev pub at_text : List ℕ → ℕ → List ℕ
at_text file at = file ++ codes ":" ++ decimal at

-- the same of a place in one of the files
abbrev pub place_text : List (List ℕ) → Place → List ℕ
place_text files place = at_text (slice_index_or files place.file []) place.at

abbrev pub found_text : Found → List ℕ
found_text (one decl) = decl_text decl
found_text nothing = codes "none"
found_text (many first second) = decl_text first ++ codes " and " ++ decl_text second
found_text (not_accessible decl) = decl_text decl ++ codes " not accessible"
found_text (from_static decl) = decl_text decl ++ codes " from static"

abbrev pub kind_text : Kind → List ℕ
kind_text Load = codes "Load"
kind_text Store = codes "Store"
kind_text VolatileLoad = codes "VolatileLoad"
kind_text VolatileStore = codes "VolatileStore"
kind_text Enter = codes "Enter"
kind_text Exit = codes "Exit"
kind_text Still = codes "Still"

-- an access's kind and, where there is one, a space and the field
abbrev pub access_text : Kind → Option FieldKey → List ℕ
access_text kind None = kind_text kind
access_text kind (Some field) = kind_text kind ++ codes " " ++ field_text field

abbrev pub site_text : Site FieldKey LocalKey → List ℕ
site_text (Read local) = codes "Read " ++ local_text local
site_text (Write local) = codes "Write " ++ local_text local
site_text (Access kind field) = access_text kind field
site_text Check = codes "Check"
site_text Call = codes "Call"
site_text Loop = codes "Loop"

-- a site's place, a space, and the site
abbrev pub site_at_text : List (List ℕ) → SiteAt → List ℕ
site_at_text files s = place_text files s.place ++ codes " " ++ site_text s.site
