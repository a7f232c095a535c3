use Rattle.jr_unused_locals.proofs.UsedPaths as paths
use Rattle.jr_unused_locals.proofs.laws.comes_by_paths.Goals as goal

pub returns : goal.returns
returns g c = paths.comes_by_paths
