use Rattle.jr_code_cases.proofs.WrongTurns.MissingReturn.{refused}
use Rattle.jr_code_cases.proofs.laws.missing_return.Goals as goal

pub returns : goal.returns
returns c = refused
