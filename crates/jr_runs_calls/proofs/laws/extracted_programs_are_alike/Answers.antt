use Rattle.jr_runs_calls.proofs.Made as making
use Rattle.jr_runs_calls.proofs.laws.extracted_programs_are_alike.Goals as goal

pub returns : goal.returns
returns g c = record { alike = making.extracted_programs_are_alike; typed = making.extracted_methods_are_alike }
