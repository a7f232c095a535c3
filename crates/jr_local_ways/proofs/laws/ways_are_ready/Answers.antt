use Rattle.jr_local_ways.proofs.Ready.{ways_are_ready}
use Rattle.jr_local_ways.proofs.laws.ways_are_ready.Goals as goal

pub returns : goal.returns
returns c = ways_are_ready
