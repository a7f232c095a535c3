use Rattle.jr_rename_laws.proofs.Planned.{planned}
use Rattle.jr_rename_laws.proofs.new_programs.plans_become.Goals as goal

pub returns : goal.returns
returns B c = planned
