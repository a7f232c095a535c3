use Rattle.jr_runs_calls.proofs.Removed as removing
use Rattle.jr_runs_calls.proofs.laws.inlined_programs_are_alike.Goals as goal

pub returns : goal.returns
returns g c = record { alike = removing.inlined_programs_are_alike; typed = removing.inlined_methods_are_alike }
