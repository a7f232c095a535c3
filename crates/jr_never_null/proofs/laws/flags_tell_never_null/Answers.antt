use Rattle.jr_never_null.proofs.Flagging.{flags_tell}
use Rattle.jr_never_null.proofs.laws.flags_tell_never_null.Goals as goal

pub returns : goal.returns
returns g c facts is_assigned inits e = flags_tell facts is_assigned inits e
