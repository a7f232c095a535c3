use Rattle.jr_pexpr.proofs.Marks as Marks
use Rattle.jr_pexpr.proofs.laws.one_expression.Goals as goal

pub returns : goal.returns
returns c = Marks.one_expression
