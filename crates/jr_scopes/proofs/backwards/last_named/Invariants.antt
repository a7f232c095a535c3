use Rattle.std.proofs.Common.{◌≡◌, ◌≤◌, length}
use Rattle.std.specs.Str.{bytes_eq}
use Rattle.jr_scopes.specs.Tracked.{last_place, name_in}
use Rattle.jr_scopes.proofs.backwards.last_named.Given as goal

abbrev pub invariant-loop-rest : goal.invariant-loop-rest
invariant-loop-rest l = record {
  same : last_place (λ k. bytes_eq (name_in k) l.name) l.rest ≡ last_place (λ k. bytes_eq (name_in k) l.name) l.known;
  few : length l.rest ≤ length l.known;
}

abbrev pub decreases-loop-rest : goal.decreases-loop-rest
decreases-loop-rest l = length l.rest
