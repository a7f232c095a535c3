use Rattle.jr_lookup.proofs.Lasts.{or_none}
use Rattle.jr_lookup.proofs.locals.last_local.Goals as goal

pub loop-last-init : goal.loop-last-init
loop-last-init c = or_none _
