use Rattle.jr_local_moves.proofs.SpotsSeen as seen
use Rattle.jr_local_moves.proofs.laws.spots_have_the_ways.Goals as goal

pub returns : goal.returns
returns g c = seen.spots_have_the_ways
