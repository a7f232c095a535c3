use Rattle.std.proofs.Common.{◌≡◌, drop}
use Rattle.jr_bodies.specs.CodeView.{code_of}
use Rattle.jr_new_bodies.specs.Known.{context_of}
use Rattle.jr_new_bodies.specs.Moves.{Goes}
use Rattle.jr_local_parts.specs.Descending.{place_of, standing}
use Rattle.jr_local_parts.proofs.Descents.{Leads}
use Rattle.jr_local_parts.proofs.elements.go_to_element.Given as goal

abbrev pub invariant-loop-wanted : goal.invariant-loop-wanted
invariant-loop-wanted l = record {
  goes : Goes l.fn.here l.here (context_of l.here);
  depth : l.depth ≡ l.wanted-index;
  leads : Leads (standing (context_of l.fn.here) l.next l.body.from) (code_of l.body.code).front (code_of l.body.code).list l.steps (place_of (context_of l.here) l.place) (drop l.wanted-index l.steps) l.at;
}
