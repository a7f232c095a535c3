use Rattle.jr_code_cases.proofs.Programs.HandedOver.{shown}
use Rattle.jr_code_cases.proofs.laws.handed_over.Goals as goal

pub returns : goal.returns
returns c = shown
