use Rattle.std.proofs.Common.{IsTrue, sym, subst}
use Rattle.jr_sync.specs.declared.pieces.Test.{Test}
use Rattle.jr_sync.specs.Crossing.{IsFound}
use Rattle.jr_sync.proofs.pieces.found.Goals as goal

pub returns-in-Accesses : goal.returns-in-Accesses
returns-in-Accesses g c =
    subst (λ (t : Test). IsFound (λ x y. IsTrue (g.K.PartialEq.eq x y)) (λ x y. IsTrue (g.L.PartialEq.eq x y)) t c.args.a.now c.args.b.now c.access_kind.result)
    (sym c.in-Accesses.is) c.access_kind.ensures

pub returns-in-Locals : goal.returns-in-Locals
returns-in-Locals g c =
    subst (λ (t : Test). IsFound (λ x y. IsTrue (g.K.PartialEq.eq x y)) (λ x y. IsTrue (g.L.PartialEq.eq x y)) t c.args.a.now c.args.b.now c.local_kind.result)
    (sym c.in-Locals.is) c.local_kind.ensures
