use Rattle.jr_grammar.proofs.RemarkedShape as RemarkedShape
use Rattle.jr_grammar.proofs.laws.statement_ignores_marks.Goals as goal

pub returns : goal.returns
returns g c = RemarkedShape.statement_ignores_marks
