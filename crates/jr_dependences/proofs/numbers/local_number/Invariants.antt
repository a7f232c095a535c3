use Rattle.std.specs.Prelude.{IsTrue, map}
use Rattle.jr_dependences.specs.Numbers.{HasLocal}
use Rattle.jr_dependences.proofs.Numbering.{NotYet}
use Rattle.jr_dependences.proofs.numbers.local_number.Given as goal

abbrev pub invariant-loop-n : goal.invariant-loop-n
invariant-loop-n g l = NotYet (HasLocal (λ x y. IsTrue (g.L.PartialEq.eq x y)) l.local) (map (λ s. s.now) l.sites) l.n
