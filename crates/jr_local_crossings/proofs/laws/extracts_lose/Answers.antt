use Rattle.jr_local_crossings.proofs.Called.{extracts_lose}
use Rattle.jr_local_crossings.proofs.laws.extracts_lose.Goals as goal

pub returns : goal.returns
returns c = extracts_lose c.footprints_are_of_body.ensures c.values_are_evaluated.ensures c.fronts_are_of_body.ensures c.pieces_are_lost.ensures
