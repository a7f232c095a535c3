-- What a site is to the order of code.
use Rattle.std.specs.Prelude.{Bool, true, false, Option, Some, None, is_some}
use Rattle.jr_sync.specs.declared.kinds.Kind.{Kind}
use Rattle.jr_sync.specs.declared.kinds.Kind.TheVariants.{Load, Store, VolatileLoad, VolatileStore}
use Rattle.jr_sync.specs.declared.kinds.Kind.TheVariants.{Enter, Exit, Still}
use Rattle.jr_sync.specs.declared.sites.Site.{Site}
use Rattle.jr_sync.specs.declared.sites.Site.TheVariants.{Read, Write, Access, Check, Call, Loop}

-- It may throw, call, or turn for ever.
abbrev pub is_wild : {K L : Type 0} → Site K L → Bool
is_wild (Read l) = false
is_wild (Write l) = false
is_wild (Access k f) = false
is_wild Check = true
is_wild Call = true
is_wild Loop = true

-- of an access
abbrev pub kind_of : {K L : Type 0} → Site K L → Option Kind
kind_of (Read l) = None
kind_of (Write l) = None
kind_of (Access k f) = Some k
kind_of Check = None
kind_of Call = None
kind_of Loop = None

abbrev pub is_access : {K L : Type 0} → Site K L → Bool
is_access site = is_some (kind_of site)

abbrev pub field_of : {K L : Type 0} → Site K L → Option K
field_of (Read l) = None
field_of (Write l) = None
field_of (Access k f) = f
field_of Check = None
field_of Call = None
field_of Loop = None

-- the local that is read
abbrev pub read_of : {K L : Type 0} → Site K L → Option L
read_of (Read l) = Some l
read_of (Write l) = None
read_of (Access k f) = None
read_of Check = None
read_of Call = None
read_of Loop = None

-- the local that is written
abbrev pub written_of : {K L : Type 0} → Site K L → Option L
written_of (Read l) = None
written_of (Write l) = Some l
written_of (Access k f) = None
written_of Check = None
written_of Call = None
written_of Loop = None

-- An access of a final field counts as no store.
abbrev pub is_store_kind : Kind → Bool
is_store_kind Load = false
is_store_kind Store = true
is_store_kind VolatileLoad = false
is_store_kind VolatileStore = true
is_store_kind Enter = false
is_store_kind Exit = false
is_store_kind Still = false

abbrev pub is_store : {K L : Type 0} → Site K L → Bool
is_store (Read l) = false
is_store (Write l) = false
is_store (Access k f) = is_store_kind k
is_store Check = false
is_store Call = false
is_store Loop = false
