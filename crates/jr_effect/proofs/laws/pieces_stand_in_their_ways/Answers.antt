use Rattle.jr_effect.proofs.Standing.{stands}
use Rattle.jr_effect.proofs.laws.pieces_stand_in_their_ways.Goals as goal

pub returns : goal.returns
returns g c piece w k at = stands piece w k at
