use Rattle.jr_new_bodies.proofs.Moving.{cut_to}
use Rattle.jr_new_bodies.proofs.places.cut_back.Goals as goal

pub set_own-requires : goal.set_own-requires
set_own-requires c = c.in_ok-truncate.ensures.kept

pub returns : goal.returns
returns c =
    cut_to c.args.here.now _ _ c.args.depth c.args.own c.in_ok-truncate.ensures.beside c.in_ok-truncate.ensures.locals c.set_own.ensures.beside c.set_own.ensures.locals c.set_own.ensures.own c.set_own.ensures.kept
