use Rattle.jr_code_cases.proofs.Programs.CountedLoop.{shown}
use Rattle.jr_code_cases.proofs.laws.counted_loop.Goals as goal

pub returns : goal.returns
returns c = shown
