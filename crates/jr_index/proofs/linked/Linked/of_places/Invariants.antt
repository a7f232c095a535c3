use Rattle.std.specs.Prelude.{map}
use Rattle.jr_index.specs.Linked.{place_of, AreLinkedFrom}
use Rattle.jr_index.proofs.linked.Linked.of_places.Given as goal

abbrev pub invariant-loop-behind : goal.invariant-loop-behind
invariant-loop-behind l = AreLinkedFrom (map place_of l.places) l.owners l.behind l.linked
