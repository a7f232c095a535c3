use Rattle.jr_unused_locals.proofs.ListBeginnings as beginnings
use Rattle.jr_unused_locals.proofs.laws.unread_locals_may_differ.Goals as goal

pub returns : goal.returns
returns g c = beginnings.unread_locals_may_differ
