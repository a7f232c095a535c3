use Rattle.jr_unused_locals.proofs.Agreeing as agreeing
use Rattle.jr_unused_locals.proofs.laws.unused_locals_may_differ.Goals as goal

pub returns : goal.returns
returns g c = agreeing.unused_locals_may_differ
