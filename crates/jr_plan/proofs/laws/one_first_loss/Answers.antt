use Rattle.jr_plan.proofs.FirstLoss as first
use Rattle.jr_plan.proofs.laws.one_first_loss.Goals as goal

pub returns : goal.returns
returns c = first.one_first
