use Rattle.jr_one_plans.proofs.OneCrossing.{pieces_cross_once}
use Rattle.jr_one_plans.proofs.laws.pieces_cross_once.Goals as goal

pub returns : goal.returns
returns g c = pieces_cross_once
