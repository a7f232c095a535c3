use Rattle.jr_runs_calls.proofs.MadeExps as values
use Rattle.jr_runs_calls.proofs.laws.extracted_values_are_alike.Goals as goal

pub returns : goal.returns
returns g c = values.extracted_values_are_alike
