use Rattle.std.proofs.Common.{ℕ, ◌+◌, ◌<◌, ◌^◌, All, take}
use Rattle.jr_local_uses.proofs.places.all_fit.Given as goal

abbrev pub invariant-loop-at : goal.invariant-loop-at
invariant-loop-at l = All (λ (n : ℕ). n + l.size < 2 ^ 32) (take l.at-index l.places)
