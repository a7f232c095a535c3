use Rattle.jr_pieces.proofs.InFront.{what_comes_before_stands_in_front}
use Rattle.jr_local_footprints.proofs.Pairs.{fronts_are_of_body}
use Rattle.jr_local_footprints.proofs.laws.fronts_are_of_body.Goals as goal

pub returns : goal.returns
returns c = fronts_are_of_body what_comes_before_stands_in_front
