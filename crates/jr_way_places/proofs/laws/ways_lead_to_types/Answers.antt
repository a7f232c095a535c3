use Rattle.jr_way_places.proofs.Leading as lemmas
use Rattle.jr_way_places.proofs.laws.ways_lead_to_types.Goals as goal

pub returns : goal.returns
returns g c = lemmas.ways_lead_to_types
