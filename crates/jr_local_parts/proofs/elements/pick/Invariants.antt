use Rattle.std.proofs.Common.{◌≡◌, drop}
use Rattle.jr_ast.specs.View.{stmts_of}
use Rattle.jr_new_bodies.specs.Known.{context_of}
use Rattle.jr_new_bodies.specs.Moves.{Goes}
use Rattle.jr_local_parts.specs.Descending.{standing, pick as chosen}
use Rattle.jr_local_parts.proofs.elements.pick.Given as goal

-- what is picked from here on is what is picked from the first element on
abbrev pub invariant-loop-of : goal.invariant-loop-of
invariant-loop-of l = record {
  goes : Goes l.fn.here l.here (context_of l.here);
  is : chosen (standing (context_of l.fn.here) l.fn.next l.base) l.first l.wanted (stmts_of l.list)
      ≡ chosen (standing (context_of l.here) l.next l.base) l.number l.wanted (stmts_of (drop l.of-index l.list));
}
