use Rattle.std.specs.Prelude.{IsTrue, map}
use Rattle.jr_dependences.specs.Numbers.{HasField}
use Rattle.jr_dependences.proofs.Numbering.{NotYet}
use Rattle.jr_dependences.proofs.numbers.field_number.Given as goal

abbrev pub invariant-loop-n : goal.invariant-loop-n
invariant-loop-n g l = NotYet (HasField (λ x y. IsTrue (g.K.PartialEq.eq x y)) l.field) (map (λ s. s.now) l.sites) l.n
