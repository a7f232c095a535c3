use Rattle.jr_used_spots.proofs.Plans as plans
use Rattle.jr_used_spots.proofs.laws.inlines_take_away.Goals as goal

pub returns : goal.returns
returns c = plans.inlines_take_away c.members_are_written.ensures
