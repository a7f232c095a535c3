use Rattle.jr_code_cases.proofs.Programs.Literals.{shown}
use Rattle.jr_code_cases.proofs.laws.literals.Goals as goal

pub returns : goal.returns
returns c = shown
