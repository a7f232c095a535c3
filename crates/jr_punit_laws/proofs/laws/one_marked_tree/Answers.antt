use Rattle.jr_punit_laws.proofs.OneReading as OneReading
use Rattle.jr_punit_laws.proofs.laws.one_marked_tree.Goals as goal

pub returns : goal.returns
returns c = OneReading.one_marked_tree (record { statements = c.statement_ignores_marks.ensures; members = c.member_ignores_marks.ensures; units = c.unit_ignores_marks.ensures }) c.marks_are_one.ensures.one
