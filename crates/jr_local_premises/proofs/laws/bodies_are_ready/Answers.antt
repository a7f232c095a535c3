use Rattle.jr_local_premises.proofs.Bodies.{bodies_are_ready}
use Rattle.jr_local_premises.proofs.laws.bodies_are_ready.Goals as goal

pub returns : goal.returns
returns c = bodies_are_ready c.written_members_are_ready.ensures
