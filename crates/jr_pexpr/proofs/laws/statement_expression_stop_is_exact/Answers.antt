use Rattle.jr_pexpr.proofs.Marks as Marks
use Rattle.jr_pexpr.proofs.laws.statement_expression_stop_is_exact.Goals as goal

pub returns : goal.returns
returns c = Marks.statement_stop_is_exact
