use Rattle.std.proofs.Common.{ℕ, List}
use Rattle.jr_dependences.specs.Summed.{AreKept, IsKnown, given_of}
use Rattle.jr_dependences.proofs.TogetherLaws.{WeighBelow}
use Rattle.jr_dependences.proofs.together.weigh_all.Given as goal

abbrev pub invariant-loop-first : goal.invariant-loop-first
invariant-loop-first l =
    AreKept l.of.sites.now l.of.lens.now l.kept.items
    × ((edges : List (ℕ × ℕ)) → IsKnown edges l.of → WeighBelow (given_of edges l.of) l.each l.first l.total)
