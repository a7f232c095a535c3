use Rattle.jr_session.proofs.PlansRead.{reads}
use Rattle.jr_session.proofs.laws.plans_read.Goals as goal

pub returns : goal.returns
returns c = reads c.plans_keep_programs.ensures.texts c.extracts_fit.ensures
