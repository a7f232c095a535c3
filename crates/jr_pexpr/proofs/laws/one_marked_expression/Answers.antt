use Rattle.jr_pexpr.proofs.Marks as Marks
use Rattle.jr_pexpr.proofs.laws.one_marked_expression.Goals as goal

pub returns-clause-spelled : goal.returns-clause-spelled
returns-clause-spelled c = Marks.one_marked_expression c.expression_ignores_marks.ensures

pub returns-clause-marked : goal.returns-clause-marked
returns-clause-marked c = Marks.one_marked c.expression_ignores_marks.ensures c.marks_are_one.ensures.one
