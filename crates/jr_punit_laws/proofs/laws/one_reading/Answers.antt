use Rattle.jr_punit_laws.proofs.OneReading as OneReading
use Rattle.jr_punit_laws.proofs.laws.one_reading.Goals as goal

pub returns : goal.returns
returns g c = OneReading.one_reading _ (record { statements = c.statement_ignores_marks.ensures; members = c.member_ignores_marks.ensures; units = c.unit_ignores_marks.ensures }) c.one_answer.ensures.items
