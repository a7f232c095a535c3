use Rattle.jr_grammar.proofs.Remarked as Remarked
use Rattle.jr_grammar.proofs.laws.expression_ignores_marks.Goals as goal

pub returns : goal.returns
returns g c = Remarked.expression_ignores_marks
