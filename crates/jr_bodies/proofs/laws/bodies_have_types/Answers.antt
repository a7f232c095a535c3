use Rattle.jr_bodies.proofs.Typed.{bodies_have_types}
use Rattle.jr_bodies.proofs.laws.bodies_have_types.Goals as goal

pub returns : goal.returns
returns c = bodies_have_types c.ways_lead_to_types.ensures
