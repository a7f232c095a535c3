use Rattle.std.proofs.Common.{ℕ, ◌<◌}
use Rattle.jr_table.specs.Entries.{IsRowOf}
use Rattle.jr_table.specs.KeyView.{decl_of}
use Rattle.jr_cursor.proofs.preludes.is_of_prelude.Given as goal

-- none of those so far declares it
abbrev pub invariant-loop-number : goal.invariant-loop-number
invariant-loop-number l = (j : ℕ) → j < l.number → IsRowOf l.table (decl_of l.decl) j → ⊥
