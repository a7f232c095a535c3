use Rattle.jr_pexpr.proofs.Marks as Marks
use Rattle.jr_pexpr.proofs.laws.marks_are_spans.Goals as goal

pub returns : goal.returns
returns c = Marks.builds_marked c.expression_ignores_marks.ensures
