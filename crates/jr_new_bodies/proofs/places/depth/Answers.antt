use Rattle.std.proofs.Common.{◌∙◌}
use Rattle.jr_new_bodies.proofs.Moving.{depth_is}
use Rattle.jr_new_bodies.proofs.places.depth.Goals as goal

pub returns : goal.returns
returns c = c.len.ensures ∙ depth_is c.args.here.now
