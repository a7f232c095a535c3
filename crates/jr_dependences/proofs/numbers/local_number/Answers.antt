use Rattle.std.proofs.Common.{map, arith}
use Rattle.std.specs.Prelude.{IsTrue}
use Rattle.std.proofs.lemmas.Bool.{iff_false}
use Rattle.std.proofs.lemmas.List.{length-map}
use Rattle.jr_dependences.specs.Numbers.{HasLocal}
use Rattle.jr_dependences.proofs.Numbering.{not_first, not_more, is_first, is_none}
use Rattle.jr_dependences.proofs.Pointing.{item_at}
use Rattle.jr_dependences.proofs.numbers.local_number.Goals as goal

pub loop-n-init : goal.loop-n-init
loop-n-init g c = not_first (HasLocal (λ x y. IsTrue (g.L.PartialEq.eq x y)) c.args.local.now) (map (λ s. s.now) c.args.sites.now)

pub loop-n-preserved : goal.loop-n-preserved
loop-n-preserved g c =
    not_more (HasLocal (λ x y. IsTrue (g.L.PartialEq.eq x y)) c.args.local.now) (map (λ s. s.now) c.args.sites.now) c.loop-n.n c.index-sites-n.result.now
    (item_at (λ s. s.now) c.args.sites.now c.loop-n.n c.index-sites-n.result c.index-sites-n.result c.loop-n-test.true c.index-sites-n.is) (iff_false c.has_local.ensures c.if-has_local.false) c.loop-n.invariant

pub returns-then-has_local : goal.returns-then-has_local
returns-then-has_local g c =
    is_first (HasLocal (λ x y. IsTrue (g.L.PartialEq.eq x y)) c.args.local.now) (map (λ s. s.now) c.args.sites.now) c.loop-n.n c.index-sites-n.result.now c.loop-n.invariant
    (item_at (λ s. s.now) c.args.sites.now c.loop-n.n c.index-sites-n.result c.index-sites-n.result c.loop-n-test.true c.index-sites-n.is) (c.has_local.ensures.0 c.if-has_local.true)

pub returns : goal.returns
returns g c =
    let le = c.loop-n-test.false in
    let count = length-map c.args.sites.now (λ s. s.now) in
    is_none (HasLocal (λ x y. IsTrue (g.L.PartialEq.eq x y)) c.args.local.now) (map (λ s. s.now) c.args.sites.now) c.loop-n.n 0 (omega (arith, le, count)) c.loop-n.invariant
