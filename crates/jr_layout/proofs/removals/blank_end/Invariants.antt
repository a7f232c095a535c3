use Rattle.std.proofs.Common.{ℕ, ◌-◌, ◌<◌, ◌≤◌, length}
use Rattle.jr_layout.specs.Layouts.{IsBlankByte}
use Rattle.jr_layout.proofs.removals.blank_end.Given as goal

abbrev pub invariant-loop-end : goal.invariant-loop-end
invariant-loop-end l = (l.at ≤ l.end) × (l.end ≤ length l.bytes) × ((k : ℕ) → l.at ≤ k → k < l.end → IsBlankByte l.bytes k)

abbrev pub decreases-loop-end : goal.decreases-loop-end
decreases-loop-end l = length l.bytes - l.end
