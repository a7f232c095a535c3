use Rattle.jr_code_cases.proofs.Programs.Bumps.{shown}
use Rattle.jr_code_cases.proofs.laws.bumps.Goals as goal

pub returns : goal.returns
returns c = shown
