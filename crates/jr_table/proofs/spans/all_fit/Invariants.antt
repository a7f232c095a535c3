use Rattle.std.proofs.Common.{◌<◌, ℕ}
use Rattle.jr_table.specs.Spans.{Fits}
use Rattle.jr_table.proofs.spans.all_fit.Given as goal

abbrev pub invariant-loop-at : goal.invariant-loop-at
invariant-loop-at l = (k : ℕ) → k < l.at → Fits l.entries l.numbered k
