use Rattle.std.proofs.Common.{◌≡◌, ℕ, ◌<◌, Some, true}
use Rattle.std.specs.Prelude.{slice_get}
use Rattle.jr_table.specs.declared.decls.Decl as raw
use Rattle.jr_table.specs.KeyView.{decl_of}
use Rattle.jr_dispatch.specs.Told.{is_prelude_method}
use Rattle.jr_dispatch.proofs.preludes.prelude_member.Given as goal

-- none of those so far
abbrev pub invariant-loop-decl : goal.invariant-loop-decl
invariant-loop-decl l = (m : ℕ) (x : raw.Decl) → m < l.decl-index → slice_get l.family m ≡ Some x → is_prelude_method l.table (decl_of x) ≡ true → ⊥
