use Rattle.std.proofs.Common.{take}
use Rattle.std.specs.Prelude.{IsTrue, map}
use Rattle.std.specs.List.{AllZip}
use Rattle.jr_dependences.specs.Numbers.{IsNumbered}
use Rattle.jr_dependences.proofs.numbers.numbered.Given as goal

abbrev pub invariant-loop-n : goal.invariant-loop-n
invariant-loop-n g l =
    AllZip (IsNumbered (λ x y. IsTrue (g.K.PartialEq.eq x y)) (λ x y. IsTrue (g.L.PartialEq.eq x y)) (map (λ s. s.now) l.sites))
    (take l.n (map (λ s. s.now) l.sites)) l.row.items
