use Rattle.jr_grammar.proofs.Reading as Reading
use Rattle.jr_grammar.proofs.laws.reads_are_grammar.Goals as goal

pub returns : goal.returns
returns g c = Reading.reads_are_grammar c.items_are_placed.ensures.items
