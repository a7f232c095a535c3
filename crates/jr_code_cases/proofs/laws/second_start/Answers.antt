use Rattle.jr_code_cases.proofs.Programs.SecondStart.{shown}
use Rattle.jr_code_cases.proofs.laws.second_start.Goals as goal

pub returns : goal.returns
returns c = shown
