use Rattle.jr_punit_laws.proofs.Readings as Readings
use Rattle.jr_punit_laws.proofs.laws.one_member.Goals as goal

pub returns : goal.returns
returns c = Readings.one_member
