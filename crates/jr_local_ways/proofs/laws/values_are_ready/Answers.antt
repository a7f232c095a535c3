use Rattle.jr_local_ways.proofs.Valued.{values_are_ready}
use Rattle.jr_local_ways.proofs.laws.values_are_ready.Goals as goal

pub returns : goal.returns
returns c = values_are_ready c.notes_are_exact.ensures.expressions c.lookups_are_exact.ensures.keys c.types_are_exact.ensures.bound
