use Rattle.jr_local_premises.proofs.Bodies.{bodies_are_below}
use Rattle.jr_local_premises.proofs.laws.bodies_are_below.Goals as goal

pub returns : goal.returns
returns c = bodies_are_below c.members_are_written.ensures
