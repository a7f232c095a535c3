use Rattle.jr_unused_locals.proofs.LaterWrites as writing
use Rattle.jr_unused_locals.proofs.laws.unused_locals_play_no_part.Goals as goal

pub returns : goal.returns
returns g c = writing.unused_locals_play_no_part
