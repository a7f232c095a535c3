use Rattle.jr_ast.specs.View.{word_of, type_of}
use Rattle.jr_new_bodies.proofs.Moving.{declared}
use Rattle.jr_new_bodies.proofs.places.declare.Goals as goal

pub set_own-requires : goal.set_own-requires
set_own-requires g c = c.in_ok-push.ensures.kept

pub returns : goal.returns
returns g c =
    declared c.args.here.now _ _ c.args.number c.args.is_final (type_of c.args.ty.now) (word_of c.args.name.now) _ c.declared_local.ensures c.in_ok-push.ensures.beside c.in_ok-push.ensures.locals
    c.set_own.ensures.beside c.set_own.ensures.locals c.set_own.ensures.own c.set_own.ensures.kept
