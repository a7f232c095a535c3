use Rattle.jr_code_cases.proofs.WrongTurns.Down.{refused}
use Rattle.jr_code_cases.proofs.laws.down.Goals as goal

pub returns : goal.returns
returns c = refused
