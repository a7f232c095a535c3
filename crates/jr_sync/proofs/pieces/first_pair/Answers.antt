use Rattle.std.proofs.Common.{◌<◌, IsTrue, Some, length, sym, ap, ◌∙◌, arith}
use Rattle.std.proofs.lemmas.Option.{slice_get-get_or, slice_get_within}
use Rattle.jr_sync.proofs.Pairs.{before_more, first_here}
use Rattle.jr_sync.proofs.pieces.first_pair.Goals as goal

pub loop-i-preserved : goal.loop-i-preserved
loop-i-preserved g c =
    before_more (λ x y. IsTrue (g.K.PartialEq.eq x y)) (λ x y. IsTrue (g.L.PartialEq.eq x y)) c.args.test c.args.first.now c.args.second.now c.loop-i.i c.index-first-i.result
    (slice_get-get_or c.args.first.now c.loop-i.i c.index-first-i.result c.loop-i-test.true ∙ ap Some (sym c.index-first-i.is)) c.in_default.ensures c.loop-i.invariant

pub returns-in-Some : goal.returns-in-Some
returns-in-Some g c =
    first_here (λ x y. IsTrue (g.K.PartialEq.eq x y)) (λ x y. IsTrue (g.L.PartialEq.eq x y)) c.args.test c.args.first.now c.args.second.now c.loop-i.i c.in-Some.j c.in-Some.kind c.index-first-i.result
    (slice_get-get_or c.args.first.now c.loop-i.i c.index-first-i.result c.loop-i-test.true ∙ ap Some (sym c.index-first-i.is)) c.in-Some.ensures c.loop-i.invariant

pub returns : goal.returns
returns g c m n kind h =
    let within : m < length c.args.first.now = slice_get_within c.args.first.now m h.0 h.2 in
    c.loop-i.invariant m n kind (omega arith) h
