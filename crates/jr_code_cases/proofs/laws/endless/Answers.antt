use Rattle.jr_code_cases.proofs.WrongTurns.Endless.{shown}
use Rattle.jr_code_cases.proofs.laws.endless.Goals as goal

pub returns : goal.returns
returns c = shown
