use Rattle.jr_local_footprints.proofs.FootprintsSeen.{footprints_are_of_body}
use Rattle.jr_local_footprints.proofs.laws.footprints_are_of_body.Goals as goal

pub returns : goal.returns
returns c = footprints_are_of_body c.items_are_placed.ensures.items c.members_are_written.ensures c.spans_tell_ways.ensures c.standing_lists_are_nested.ensures
