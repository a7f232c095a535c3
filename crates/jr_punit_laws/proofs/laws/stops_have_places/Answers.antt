use Rattle.jr_punit_laws.proofs.StopPlaces as StopPlaces
use Rattle.jr_punit_laws.proofs.laws.stops_have_places.Goals as goal

pub returns-clause-place : goal.returns-clause-place
returns-clause-place c = StopPlaces.stops_have_places

pub returns-clause-one : goal.returns-clause-one
returns-clause-one c = StopPlaces.stops_have_one_place
