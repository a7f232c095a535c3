use Rattle.std.proofs.Common.{◌≡◌, ℕ, ◌<◌, Some}
use Rattle.std.specs.Prelude.{slice_get}
use Rattle.jr_table.specs.Entries.{entries_of}
use Rattle.jr_table.specs.Chains.{IsSubclassAt}
use Rattle.jr_dispatch.proofs.changes.is_below_one.Given as goal

-- it is below none of those so far
abbrev pub invariant-loop-low : goal.invariant-loop-low
invariant-loop-low l = (i x : ℕ) → i < l.low-index → slice_get l.lows i ≡ Some x → IsSubclassAt (entries_of l.table) l.class x → ⊥
