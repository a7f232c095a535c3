-- What a reference finds, by number, and which declaration that is.
use Rattle.std.specs.Prelude.{◌≡◌, ℕ, List, Option, Some, None, Contains}
use Rattle.jr_table.specs.Decls.{MemberKey, Decl, local_decl}
use Rattle.jr_table.specs.KeyView.{decl_of}
use Rattle.jr_table.specs.Rows.{Row}
use Rattle.jr_table.specs.Notes.{Note, refers, breaks}
use Rattle.jr_table.specs.Lookup.{decl_at}
use Rattle.jr_scopes.specs.Helds.{key_of}
use Rattle.jr_bind.specs.declared.sharing.Target as raw
use Rattle.jr_bind.specs.declared.sharing.Target.TheVariants as target
use Rattle.jr_bind.specs.declared.sharing.Shared as raw_shared

abbrev pub target_decl : List Row → MemberKey → raw.Target → Option Decl
target_decl rows k (target.Row j) = decl_at rows j
target_decl rows k (target.Local n) = Some (local_decl (key_of k n))

-- each is what its target declares
abbrev pub AreShared : List Row → MemberKey → List raw_shared.Shared → Type 0
AreShared rows k shared = (s : raw_shared.Shared) → Contains shared s
    → target_decl rows k s.target ≡ Some (decl_of s.decl.value)

-- where a note stands, and what it refers to
abbrev pub note_place : Note → ℕ
note_place (refers at d) = at
note_place (breaks at r) = at

abbrev pub note_decl : Note → Option Decl
note_decl (refers at d) = Some d
note_decl (breaks at r) = None
