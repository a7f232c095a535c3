use Rattle.std.proofs.Common.{◌≡◌, ◌≤◌, length}
use Rattle.jr_scopes.specs.Tracked.{last_place, number_in, same_number}
use Rattle.jr_scopes.proofs.backwards.last_numbered.Given as goal

abbrev pub invariant-loop-rest : goal.invariant-loop-rest
invariant-loop-rest l = record {
  same : last_place (λ k. same_number (number_in k) l.number) l.rest ≡ last_place (λ k. same_number (number_in k) l.number) l.known;
  few : length l.rest ≤ length l.known;
}

abbrev pub decreases-loop-rest : goal.decreases-loop-rest
decreases-loop-rest l = length l.rest
