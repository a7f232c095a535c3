use Rattle.jr_punit_laws.proofs.Readings as Readings
use Rattle.jr_punit_laws.proofs.laws.list_stop_is_exact.Goals as goal

pub returns : goal.returns
returns c = Readings.list_stop_is_exact
