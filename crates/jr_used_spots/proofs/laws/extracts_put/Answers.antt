use Rattle.jr_used_spots.proofs.Plans as plans
use Rattle.jr_used_spots.proofs.laws.extracts_put.Goals as goal

pub returns : goal.returns
returns c = plans.extracts_put c.members_are_written.ensures
