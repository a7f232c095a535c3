use Rattle.std.proofs.Common.{◌≡◌}
use Rattle.jr_local_walks.specs.Mappings.{numbers_from}
use Rattle.jr_local_parts.proofs.numbers.kept_numbers.Given as goal

abbrev pub invariant-loop-number : goal.invariant-loop-number
invariant-loop-number l = l.numbers.items ≡ numbers_from 0 l.number
