use Rattle.jr_pexpr.proofs.Marks as Marks
use Rattle.jr_pexpr.proofs.laws.statement_expression_is_longest.Goals as goal

pub returns : goal.returns
returns c = Marks.statement_length_is_longest
