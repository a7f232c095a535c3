use Rattle.jr_new_bodies.proofs.Moving.{own_is}
use Rattle.jr_new_bodies.proofs.places.own.Goals as goal

pub returns : goal.returns
returns c = own_is c.args.here.now
