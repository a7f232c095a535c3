use Rattle.std.proofs.Common.{ℕ, ◌<◌}
use Rattle.jr_table.specs.Entries.{entries_of}
use Rattle.jr_dispatch.specs.Changes.{IsLowClass}
use Rattle.jr_dispatch.proofs.changes.first_low.Given as goal

-- none of the rows so far
abbrev pub invariant-loop-number : goal.invariant-loop-number
invariant-loop-number l = (i : ℕ) → i < l.number → IsLowClass (entries_of l.table) l.lows i → ⊥
