use Rattle.std.proofs.Common.{◌≡◌, ◌<◌, ℕ}
use Rattle.std.specs.List.{slice_get}
use Rattle.std.specs.Prelude.{Some, None}
use Rattle.jr_sources.proofs.first_faults.first_of.Given as goal

abbrev pub invariant-loop-number : goal.invariant-loop-number
invariant-loop-number l = (i : ℕ) → i < l.number → slice_get l.faults i ≡ Some None
