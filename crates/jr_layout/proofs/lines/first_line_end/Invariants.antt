use Rattle.std.proofs.Common.{ℕ, ◌<◌}
use Rattle.jr_layout.specs.Lines.{IsInLine}
use Rattle.jr_layout.proofs.lines.first_line_end.Given as goal

abbrev pub invariant-loop-at : goal.invariant-loop-at
invariant-loop-at l = (k : ℕ) → k < l.at → IsInLine l.bytes k
