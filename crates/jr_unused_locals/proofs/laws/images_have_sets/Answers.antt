use Rattle.jr_unused_locals.proofs.UnusedSets as unused
use Rattle.jr_unused_locals.proofs.laws.images_have_sets.Goals as goal

pub returns : goal.returns
returns g c = unused.images_have_sets
