use Rattle.jr_runs_held.proofs.HeldLocal as held
use Rattle.jr_runs_held.proofs.laws.held_locals_keep_runs.Goals as goal

pub returns : goal.returns
returns g c = record { made = held.held_programs_are_alike; gone = held.held_locals_go }
