use Rattle.jr_dependences.specs.Depends.{WritesAgain}
use Rattle.jr_dependences.specs.Numbers.{SameNumber}
use Rattle.jr_dependences.proofs.Stopping.{Gathers}
use Rattle.jr_dependences.proofs.stops.stops_of.Given as goal

abbrev pub invariant-loop-n : goal.invariant-loop-n
invariant-loop-n l = Gathers (WritesAgain SameNumber SameNumber l.sites l.site) l.n l.stops.items
