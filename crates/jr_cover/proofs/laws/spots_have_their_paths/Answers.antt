use Rattle.jr_cover.proofs.SpotPaths as laws
use Rattle.jr_cover.proofs.laws.spots_have_their_paths.Goals as goal

pub returns : goal.returns
returns g c = laws.spots_have_their_paths
