use Rattle.std.proofs.Common.{refl, inl, inr}
use Rattle.std.specs.Prelude.{IsTrue}
use Rattle.std.proofs.lemmas.Bool.{iff_false}
use Rattle.jr_sync.proofs.Found.{none_accesses}
use Rattle.jr_sync.proofs.pieces.access_kind.Goals as goal

pub returns-then-is_field : goal.returns-then-is_field
returns-then-is_field g c = inl (refl, c.related-is_field.ensures.0 c.if-is_field.true)

pub returns-then-is_sync : goal.returns-then-is_sync
returns-then-is_sync g c =
    inr (refl, iff_false c.related-is_field.ensures c.if-is_field.false, c.related-is_sync.ensures.0 c.if-is_sync.true)

pub returns : goal.returns
returns g c =
    none_accesses (λ x y. IsTrue (g.K.PartialEq.eq x y)) (λ x y. IsTrue (g.L.PartialEq.eq x y)) c.args.a.now c.args.b.now
    (iff_false c.related-is_field.ensures c.if-is_field.false) (iff_false c.related-is_sync.ensures c.if-is_sync.false)
