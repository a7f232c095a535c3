use Rattle.jr_punit_laws.proofs.Readings as Readings
use Rattle.jr_punit_laws.proofs.laws.unit_stop_is_exact.Goals as goal

pub returns : goal.returns
returns c = Readings.unit_stop_is_exact
