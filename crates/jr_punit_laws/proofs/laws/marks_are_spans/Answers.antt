use Rattle.jr_punit_laws.proofs.ReadsMarked as ReadsMarked
use Rattle.jr_punit_laws.proofs.laws.marks_are_spans.Goals as goal

pub returns : goal.returns
returns c = ReadsMarked.reads_marked (record { statements = c.statement_ignores_marks.ensures; members = c.member_ignores_marks.ensures; units = c.unit_ignores_marks.ensures })
