use Rattle.jr_code_cases.proofs.Programs.Overflow.{shown}
use Rattle.jr_code_cases.proofs.laws.overflow.Goals as goal

pub returns : goal.returns
returns c = shown
