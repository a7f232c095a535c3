use Rattle.jr_local_marks.proofs.Behind.{bodies_are_spelled}
use Rattle.jr_local_marks.proofs.laws.bodies_are_spelled.Goals as goal

pub returns : goal.returns
returns c = bodies_are_spelled c.items_are_placed.ensures.items c.members_are_written.ensures c.standing_lists_are_nested.ensures
