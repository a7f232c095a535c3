use Rattle.jr_reading_tests.proofs.Heads.{from_reads}
use Rattle.jr_reading_tests.proofs.building.unit_in.Goals as goal

pub returns : goal.returns
returns g c = from_reads _ c.parse_unit.result c.expect-2.result c.expect-2.ensures c.parse_unit.ensures.reads
