use Rattle.jr_bodies.proofs.Nested.{bodies_are_nested}
use Rattle.jr_bodies.proofs.laws.bodies_are_nested.Goals as goal

pub returns : goal.returns
returns c = bodies_are_nested c.items_are_placed.ensures.items c.members_are_written.ensures c.standing_lists_are_nested.ensures
