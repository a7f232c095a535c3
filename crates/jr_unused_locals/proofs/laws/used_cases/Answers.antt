use Rattle.jr_unused_locals.proofs.UsedCases as cases
use Rattle.jr_unused_locals.proofs.laws.used_cases.Goals as goal

pub returns : goal.returns
returns c = cases.used_cases
