use Rattle.jr_code_cases.proofs.Programs.NullReceiver.{shown}
use Rattle.jr_code_cases.proofs.laws.null_receiver.Goals as goal

pub returns : goal.returns
returns c = shown
