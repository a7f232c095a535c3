use Rattle.jr_first_values.proofs.FirstValues.{one_first, firsts_stand}
use Rattle.jr_first_values.proofs.laws.first_values_stand.Goals as goal

pub returns-clause-stand : goal.returns-clause-stand
returns-clause-stand g c begins units rows are program clean R = firsts_stand begins units rows are program (c.members_are_written.ensures begins units rows are program) clean R

pub returns-clause-one : goal.returns-clause-one
returns-clause-one g c begins units rows are program R first other mine yours k = one_first begins units rows are program (c.members_are_written.ensures begins units rows are program) R first other mine yours k
