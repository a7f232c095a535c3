use Rattle.jr_pexpr.proofs.Marks as Marks
use Rattle.jr_pexpr.proofs.laws.expression_stop_is_exact.Goals as goal

pub returns : goal.returns
returns c = Marks.stop_is_exact
