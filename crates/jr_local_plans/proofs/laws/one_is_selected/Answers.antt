use Rattle.jr_local_plans.proofs.OneSelected as selected
use Rattle.jr_local_plans.proofs.laws.one_is_selected.Goals as goal

pub returns : goal.returns
returns c = selected.one_is_selected c.items_are_placed.ensures.items c.members_are_written.ensures c.standing_lists_are_nested.ensures c.one_way_has_a_span.ensures
