use Rattle.jr_local_reads.proofs.Below.{bodies_begin_below}
use Rattle.jr_local_reads.proofs.laws.bodies_begin_below.Goals as goal

pub returns : goal.returns
returns c = bodies_begin_below
