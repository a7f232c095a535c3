use Rattle.jr_grammar.proofs.Marked as Marked
use Rattle.jr_grammar.proofs.laws.marks_are_one.Goals as goal

pub returns-clause-one : goal.returns-clause-one
returns-clause-one c = Marked.marks_are_one

pub returns-clause-there : goal.returns-clause-there
returns-clause-there c = Marked.marks_are_there

pub returns-clause-spells : goal.returns-clause-spells
returns-clause-spells c = Marked.stands_spells

pub returns-clause-spans : goal.returns-clause-spans
returns-clause-spans c = Marked.spans_tell_themselves
