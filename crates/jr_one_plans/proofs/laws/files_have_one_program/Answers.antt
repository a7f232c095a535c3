use Rattle.jr_one_plans.proofs.Beside.{one_program}
use Rattle.jr_one_plans.proofs.laws.files_have_one_program.Goals as goal

pub returns : goal.returns
returns c = one_program c.members_are_written.ensures
