use Rattle.jr_code_cases.proofs.Programs.FailedCast.{shown}
use Rattle.jr_code_cases.proofs.laws.failed_cast.Goals as goal

pub returns : goal.returns
returns c = shown
