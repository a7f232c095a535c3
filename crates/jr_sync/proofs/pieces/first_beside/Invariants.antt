use Rattle.std.specs.Prelude.{IsTrue}
use Rattle.jr_sync.proofs.Pairs.{NoneBeside}
use Rattle.jr_sync.proofs.pieces.first_beside.Given as goal

abbrev pub invariant-loop-j : goal.invariant-loop-j
invariant-loop-j g l = NoneBeside (λ x y. IsTrue (g.K.PartialEq.eq x y)) (λ x y. IsTrue (g.L.PartialEq.eq x y)) l.test l.site l.second l.j
