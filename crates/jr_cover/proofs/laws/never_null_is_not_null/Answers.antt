use Rattle.jr_cover.proofs.NeverNullRuns as laws
use Rattle.jr_cover.proofs.laws.never_null_is_not_null.Goals as goal

pub returns : goal.returns
returns g c = laws.never_null_is_not_null
