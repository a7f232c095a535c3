use Rattle.jr_grammar.proofs.RemarkedShape as Remarked
use Rattle.jr_grammar.proofs.laws.unit_ignores_marks.Goals as goal

pub returns : goal.returns
returns g c = Remarked.unit_ignores_marks
