use Rattle.std.proofs.Common.{◌≡◌, ◌<◌, length}
use Rattle.std.specs.Prelude.{count_by, ◌==◌}
use Rattle.jr_index.proofs.cycles.ascend.Given as goal
use Rattle.jr_index.proofs.Walking.{Walking}

abbrev pub invariant-loop-marks : goal.invariant-loop-marks
invariant-loop-marks l = record {
  size : length l.marks ≡ length l.fn.marks;
  within : l.class < length l.fn.marks;
  walking : Walking l.parents l.from l.free l.stamp l.fn.marks l.marks l.class l.least;
}

abbrev pub decreases-loop-marks : goal.decreases-loop-marks
decreases-loop-marks l = count_by (λ m. m == l.free) l.marks
