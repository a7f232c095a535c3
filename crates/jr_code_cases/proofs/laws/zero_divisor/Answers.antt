use Rattle.jr_code_cases.proofs.Programs.ZeroDivisor.{shown}
use Rattle.jr_code_cases.proofs.laws.zero_divisor.Goals as goal

pub returns : goal.returns
returns c = shown
