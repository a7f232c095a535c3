use Rattle.jr_code_cases.proofs.Programs.Initializers.{shown}
use Rattle.jr_code_cases.proofs.laws.initializers.Goals as goal

pub returns : goal.returns
returns c = shown
