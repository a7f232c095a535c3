use Rattle.jr_cover_cases.proofs.NeverNullCases as cases
use Rattle.jr_cover_cases.proofs.laws.never_null_cases.Goals as goal

pub returns : goal.returns
returns c = cases.never_null_cases
