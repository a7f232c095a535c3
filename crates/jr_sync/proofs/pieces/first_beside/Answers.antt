use Rattle.std.proofs.Common.{◌<◌, IsTrue, Some, length, sym, ap, ◌∙◌, arith}
use Rattle.std.proofs.lemmas.Option.{slice_get-get_or, slice_get_within}
use Rattle.jr_sync.proofs.Pairs.{beside_more}
use Rattle.jr_sync.proofs.pieces.first_beside.Goals as goal

pub loop-j-preserved : goal.loop-j-preserved
loop-j-preserved g c =
    beside_more (λ x y. IsTrue (g.K.PartialEq.eq x y)) (λ x y. IsTrue (g.L.PartialEq.eq x y)) c.args.test c.args.site.now c.index-second-j.result c.args.second.now c.loop-j.j
    (slice_get-get_or c.args.second.now c.loop-j.j c.index-second-j.result c.loop-j-test.true ∙ ap Some (sym c.index-second-j.is)) c.in_default.ensures c.loop-j.invariant

pub returns : goal.returns
returns g c n b kind at h =
    let within : n < length c.args.second.now = slice_get_within c.args.second.now n b at in
    c.loop-j.invariant n b kind (omega arith) at h
