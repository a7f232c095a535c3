use Rattle.jr_code_cases.proofs.Programs.VolatileFlag.{shown}
use Rattle.jr_code_cases.proofs.laws.volatile_flag.Goals as goal

pub returns : goal.returns
returns c = shown
