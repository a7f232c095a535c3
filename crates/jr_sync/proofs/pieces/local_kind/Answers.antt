use Rattle.std.proofs.Common.{refl, inl, inr}
use Rattle.std.specs.Prelude.{IsTrue}
use Rattle.std.proofs.lemmas.Bool.{iff_false}
use Rattle.jr_sync.proofs.Found.{none_locals}
use Rattle.jr_sync.proofs.pieces.local_kind.Goals as goal

pub returns-then-is_flow : goal.returns-then-is_flow
returns-then-is_flow g c = inl (refl, c.related-is_flow.ensures.0 c.if-is_flow.true)

pub returns-then-is_anti : goal.returns-then-is_anti
returns-then-is_anti g c = inr (inl (refl, c.related-is_anti.ensures.0 c.if-is_anti.true))

pub returns-then-is_output : goal.returns-then-is_output
returns-then-is_output g c = inr (inr (refl, c.related-is_output.ensures.0 c.if-is_output.true))

pub returns : goal.returns
returns g c =
    none_locals (λ x y. IsTrue (g.K.PartialEq.eq x y)) (λ x y. IsTrue (g.L.PartialEq.eq x y)) c.args.a.now c.args.b.now
    (iff_false c.related-is_flow.ensures c.if-is_flow.false) (iff_false c.related-is_anti.ensures c.if-is_anti.false) (iff_false c.related-is_output.ensures c.if-is_output.false)
