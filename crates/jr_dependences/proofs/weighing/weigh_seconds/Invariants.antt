use Rattle.std.proofs.Common.{ℕ, List}
use Rattle.jr_dependences.specs.Depends.{DependsIn}
use Rattle.jr_dependences.specs.Known.{KnowsPaths}
use Rattle.jr_dependences.specs.Listed.{IsUpTo}
use Rattle.jr_dependences.specs.Numbers.{SameNumber}
use Rattle.jr_dependences.specs.Weights.{Weighs}
use Rattle.jr_dependences.proofs.weighing.weigh_seconds.Given as goal

abbrev pub invariant-loop-second : goal.invariant-loop-second
invariant-loop-second l =
    (edges : List (ℕ × ℕ)) → KnowsPaths SameNumber SameNumber l.sites edges l.first l.reach l.flow → Weighs (IsUpTo l.first l.second) (DependsIn SameNumber SameNumber l.sites edges) l.each l.seconds l.total
