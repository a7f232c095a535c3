use Rattle.jr_one_plans.proofs.OneDispatch.{one_first_change}
use Rattle.jr_one_plans.proofs.laws.one_first_change.Goals as goal

pub returns : goal.returns
returns c = one_first_change
