use Rattle.jr_new_bodies.proofs.Moving.{left_own}
use Rattle.jr_new_bodies.proofs.places.leave_own.Goals as goal

pub returns : goal.returns
returns c = left_own c.args.here.now _ c.set_own.ensures.beside c.set_own.ensures.locals c.set_own.ensures.own c.set_own.ensures.kept
