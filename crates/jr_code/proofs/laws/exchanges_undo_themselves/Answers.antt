use Rattle.jr_code.proofs.Exchanging.{undone}
use Rattle.jr_code.proofs.laws.exchanges_undo_themselves.Goals as goal

pub returns : goal.returns
returns g c = undone
