use Rattle.std.proofs.Common.{◌≤◌, ℕ}
use Rattle.jr_dependences.specs.Summed.{Given, IsSummed, WeighsTo}
use Rattle.jr_dependences.proofs.by_sums.weigh_each.Given as goal

abbrev pub invariant-loop-second : goal.invariant-loop-second
invariant-loop-second l =
    (l.second ≤ l.to)
    × ((g : Given) (each : ℕ) → IsSummed g l.first each l.reach l.sums → WeighsTo g l.first each l.from l.total → WeighsTo g l.first each l.second l.weight)
