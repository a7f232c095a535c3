use Rattle.jr_unused_locals.proofs.UnusedSets as unused
use Rattle.jr_unused_locals.proofs.laws.unused_locals_have_sets.Goals as goal

pub returns : goal.returns
returns g c = unused.unused_locals_have_sets
