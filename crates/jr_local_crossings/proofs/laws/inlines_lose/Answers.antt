use Rattle.jr_local_crossings.proofs.Called.{inlines_lose}
use Rattle.jr_local_crossings.proofs.laws.inlines_lose.Goals as goal

pub returns : goal.returns
returns c = inlines_lose c.footprints_are_of_body.ensures c.held_values_are_evaluated.ensures c.fronts_are_of_body.ensures c.pieces_are_lost.ensures
