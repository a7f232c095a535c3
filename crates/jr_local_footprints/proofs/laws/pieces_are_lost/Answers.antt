use Rattle.jr_local_footprints.proofs.Pairs.{pieces_are_lost}
use Rattle.jr_local_footprints.proofs.laws.pieces_are_lost.Goals as goal

pub returns : goal.returns
returns c = pieces_are_lost
