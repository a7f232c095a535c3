use Rattle.jr_code_cases.proofs.Programs.FirstValues.{shown}
use Rattle.jr_code_cases.proofs.laws.first_values.Goals as goal

pub returns : goal.returns
returns c = shown
