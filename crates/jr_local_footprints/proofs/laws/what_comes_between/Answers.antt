use Rattle.jr_local_footprints.proofs.Pairs.{are_between}
use Rattle.jr_local_footprints.proofs.laws.what_comes_between.Goals as goal

pub returns : goal.returns
returns g c = λ X f b d. are_between X b d
