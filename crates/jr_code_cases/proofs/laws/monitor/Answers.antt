use Rattle.jr_code_cases.proofs.Programs.Monitor.{shown}
use Rattle.jr_code_cases.proofs.laws.monitor.Goals as goal

pub returns : goal.returns
returns c = shown
