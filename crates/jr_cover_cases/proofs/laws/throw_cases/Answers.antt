use Rattle.jr_cover_cases.proofs.ThrowCases as cases
use Rattle.jr_cover_cases.proofs.laws.throw_cases.Goals as goal

pub returns : goal.returns
returns c = cases.throw_cases
