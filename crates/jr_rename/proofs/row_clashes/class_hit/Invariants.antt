use Rattle.std.proofs.Common.{◌≡◌, ℕ, ◌<◌, Some, true}
use Rattle.std.specs.Prelude.{slice_get}
use Rattle.jr_table.specs.declared.rows.Row as raw
use Rattle.jr_table.specs.TypeView.{class_key_of}
use Rattle.jr_table.specs.KeyView.{decl_of}
use Rattle.jr_rename.specs.RowClashes.{class_clashes}
use Rattle.jr_rename.proofs.row_clashes.class_hit.Given as goal

-- none of those so far clashes
abbrev pub invariant-loop-row : goal.invariant-loop-row
invariant-loop-row l = (m : ℕ) (x : raw.Row) → m < l.row-index → slice_get l.rows m ≡ Some x → class_clashes (class_key_of l.key) l.new (decl_of x.decl) ≡ true → ⊥
