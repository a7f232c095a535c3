-- A site of a member's way, as a row of sites has it: an access by its kind, which the rows tell.
use Rattle.std.specs.Prelude.{ℕ, Some, None}
use Rattle.jr_sync.specs.declared.kinds.Kind.TheVariants.{Enter, Exit, Still}
use Rattle.jr_sync.specs.declared.sites.Site as shown
use Rattle.jr_sync.specs.declared.sites.Site.TheVariants.{Read, Write, Access, Check, Call, Loop}
use Rattle.jr_runs.specs.Keys.{Keys}
use Rattle.jr_runs.specs.Actions.{FieldKind}
use Rattle.jr_runs.specs.Reordering.{load_kind, store_kind}
use Rattle.jr_cover.specs.Sites.{What}
use Rattle.jr_cover.specs.Sites as sites

-- key, local: what names a field and a local
abbrev pub seen : {K : Keys} {F L : Type 0} → (kind : K.field → FieldKind) → (key : K.field → F)
    → (local : ℕ → L) → What K → shown.Site F L
seen kind key local (sites.reads n) = Read (local n)
seen kind key local (sites.writes n) = Write (local n)
seen kind key local (sites.loads f) = Access (load_kind (kind f)) (Some (key f))
seen kind key local (sites.stores f) = Access (store_kind (kind f)) (Some (key f))
seen kind key local sites.enters = Access Enter None
seen kind key local sites.exits = Access Exit None
seen kind key local sites.creates = Access Still None
seen kind key local sites.checks = Check
seen kind key local sites.calls = Call
seen kind key local sites.loops = Loop
