use Rattle.jr_code_cases.proofs.Programs.Dispatch.{shown}
use Rattle.jr_code_cases.proofs.laws.dispatch.Goals as goal

pub returns : goal.returns
returns c = shown
