use Rattle.std.proofs.Common.{◌≡◌, drop}
use Rattle.jr_sources.specs.ReadingFaults.{first_token_at}
use Rattle.jr_sources.proofs.readings.first_token.Given as goal

abbrev pub invariant-loop-item : goal.invariant-loop-item
invariant-loop-item l = first_token_at (drop l.item-index l.items) ≡ first_token_at l.items
