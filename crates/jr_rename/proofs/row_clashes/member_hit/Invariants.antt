use Rattle.std.proofs.Common.{◌≡◌, ℕ, ◌<◌, Some, true, map}
use Rattle.std.specs.Prelude.{slice_get}
use Rattle.jr_table.specs.declared.rows.Row as raw
use Rattle.jr_table.specs.KeyView.{decl_of}
use Rattle.jr_rename.specs.RowClashes.{one_takes_place}
use Rattle.jr_rename.proofs.row_clashes.member_hit.Given as goal

-- none of those so far has a place that is taken
abbrev pub invariant-loop-row : goal.invariant-loop-row
invariant-loop-row l = (m : ℕ) (x : raw.Row) → m < l.row-index → slice_get l.rows m ≡ Some x → one_takes_place (map decl_of l.renamed) l.new (decl_of x.decl) ≡ true → ⊥
