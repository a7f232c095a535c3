use Rattle.jr_grammar.proofs.Reading as Reading
use Rattle.jr_grammar.proofs.laws.spans_are_one.Goals as goal

pub returns-clause-one : goal.returns-clause-one
returns-clause-one g c apart = Reading.spans_are_one _ apart c.one_answer.ensures.items

pub returns-clause-there : goal.returns-clause-there
returns-clause-there g c = Reading.spans_are_there
