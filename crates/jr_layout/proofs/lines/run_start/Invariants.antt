use Rattle.std.proofs.Common.{◌≤◌}
use Rattle.jr_layout.specs.Lines.{AreSpacesAndTabs}
use Rattle.jr_layout.proofs.lines.run_start.Given as goal

abbrev pub invariant-loop-start : goal.invariant-loop-start
invariant-loop-start l = (l.start ≤ l.at) × AreSpacesAndTabs l.bytes l.start l.at

abbrev pub decreases-loop-start : goal.decreases-loop-start
decreases-loop-start l = l.start
