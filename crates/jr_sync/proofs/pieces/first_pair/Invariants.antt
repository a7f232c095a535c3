use Rattle.std.specs.Prelude.{IsTrue}
use Rattle.jr_sync.proofs.Pairs.{NoneBefore}
use Rattle.jr_sync.proofs.pieces.first_pair.Given as goal

abbrev pub invariant-loop-i : goal.invariant-loop-i
invariant-loop-i g l = NoneBefore (λ x y. IsTrue (g.K.PartialEq.eq x y)) (λ x y. IsTrue (g.L.PartialEq.eq x y)) l.test l.first l.second l.i
