use Rattle.jr_code_cases.proofs.WrongTurns.VoidValue.{refused}
use Rattle.jr_code_cases.proofs.laws.void_value.Goals as goal

pub returns : goal.returns
returns c = refused
