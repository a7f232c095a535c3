use Rattle.std.proofs.Common.{◌≤◌, ◌*◌, ◌/◌, ℕ}
use Rattle.jr_dependences.specs.Summed.{Given, IsSummed, WeighsTo}
use Rattle.jr_dependences.proofs.by_sums.weigh_blocks.Given as goal

abbrev pub invariant-loop-block : goal.invariant-loop-block
invariant-loop-block l = (l.block ≤ l.count / 64) × ((g : Given) (each : ℕ) → IsSummed g l.first each l.reach l.sums → WeighsTo g l.first each (64 * l.block) l.total)
