use Rattle.std.proofs.Common.{◌-◌, ◌≤◌, length}
use Rattle.jr_layout.specs.Lines.{AreSpacesAndTabs}
use Rattle.jr_layout.proofs.lines.run_end.Given as goal

abbrev pub invariant-loop-end : goal.invariant-loop-end
invariant-loop-end l = (l.at ≤ l.end) × (l.end ≤ length l.bytes) × AreSpacesAndTabs l.bytes l.at l.end

abbrev pub decreases-loop-end : goal.decreases-loop-end
decreases-loop-end l = length l.bytes - l.end
