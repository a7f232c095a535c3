use Rattle.jr_punit_laws.proofs.Readings as Readings
use Rattle.jr_punit_laws.proofs.laws.unit_is_read.Goals as goal

pub returns : goal.returns
returns c = Readings.unit_is_read
