use Rattle.jr_pexpr.proofs.Marks as Marks
use Rattle.jr_pexpr.proofs.laws.expression_is_longest.Goals as goal

pub returns : goal.returns
returns c = Marks.length_is_longest
