use Rattle.std.proofs.Common.{refl}
use Rattle.std.specs.Prelude.{IsTrue}
use Rattle.std.proofs.lemmas.Bool.{iff_false}
use Rattle.jr_sync.proofs.Found.{none_wild}
use Rattle.jr_sync.proofs.pieces.wild_kind.Goals as goal

pub returns-then-is_order : goal.returns-then-is_order
returns-then-is_order g c = (refl, c.related-is_order.ensures.0 c.if-is_order.true)

pub returns : goal.returns
returns g c = none_wild (λ x y. IsTrue (g.K.PartialEq.eq x y)) (λ x y. IsTrue (g.L.PartialEq.eq x y)) c.args.a.now c.args.b.now (iff_false c.related-is_order.ensures c.if-is_order.false)
