use Rattle.std.proofs.Common.{◌<◌, []}
use Rattle.jr_dependences.specs.Depends.{DependsIn}
use Rattle.jr_dependences.specs.Listed.{Adds}
use Rattle.jr_dependences.specs.Numbers.{SameNumber}
use Rattle.jr_dependences.proofs.listing.dependences_between.Given as goal

abbrev pub invariant-loop-first : goal.invariant-loop-first
invariant-loop-first l = Adds (λ d. d.first < l.first) (DependsIn SameNumber SameNumber l.sites l.graph.edges.items) [] l.list.items
