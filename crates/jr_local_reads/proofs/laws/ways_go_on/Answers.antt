use Rattle.jr_local_reads.proofs.GoingOn.{ways_go_on}
use Rattle.jr_local_reads.proofs.laws.ways_go_on.Goals as goal

pub returns : goal.returns
returns c = ways_go_on
