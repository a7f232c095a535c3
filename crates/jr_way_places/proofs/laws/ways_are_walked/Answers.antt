use Rattle.jr_way_places.proofs.Walked as lemmas
use Rattle.jr_way_places.proofs.laws.ways_are_walked.Goals as goal

pub returns : goal.returns
returns g c = lemmas.ways_are_walked
