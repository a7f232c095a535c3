use Rattle.jr_local_premises.proofs.Types.{types_are_written}
use Rattle.jr_local_premises.proofs.laws.types_are_written.Goals as goal

pub returns : goal.returns
returns c = types_are_written
