use Rattle.jr_cover_cases.proofs.WrongTurns as cases
use Rattle.jr_cover_cases.proofs.laws.wrong_turns.Goals as goal

pub returns : goal.returns
returns c = cases.wrong_turns
