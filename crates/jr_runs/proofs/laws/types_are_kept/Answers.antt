use Rattle.jr_runs.proofs.TypesKept as types
use Rattle.jr_runs.proofs.laws.types_are_kept.Goals as goal

pub returns : goal.returns
returns g c = record { calls = types.types_are_kept; ends = types.ends_fit }
