-- A name in a body, and what binding has at its first byte.
use Rattle.std.specs.Prelude.{◌≡◌, ◌↔◌, ℕ, ◌-◌, ◌≤◌, Some}
use Rattle.jr_text.specs.declared.spans.Span.{Span}
use Rattle.jr_ast.specs.Tree as tree
use Rattle.jr_grammar.specs.Layout.{itself}
use Rattle.jr_table.specs.Decls.{LocalKey, local_decl}
use Rattle.jr_table.specs.Found.{one}
use Rattle.jr_table.specs.Lookup.{FindsVariable}
use Rattle.jr_table.specs.Context.{scope_of}
use Rattle.jr_bind.specs.Bounds.{decl_in}
use Rattle.jr_bind.specs.Programs.{Program, IsProgram}
use Rattle.jr_pieces.specs.Ways.{ListWay}
use Rattle.jr_pieces.specs.Standings.{at_list}
use Rattle.jr_bodies.specs.Bodies.{begins, Body, HasBody}

-- the name to which the way leads stands in its member, and finds the locals that are bound there
pub record IsBoundName (p : Program Span) (b : Body) (m : Span) (w : tree.Word Span)
    (way : ListWay (tree.name m w) b.list) : Type 0 where
  pub within : b.at.base ≤ w.mark.from
  pub local : (k : LocalKey)
      → (decl_in b.bound.references (w.mark.from - b.at.base) ≡ Some (local_decl k))
      ↔ FindsVariable p.rows (scope_of (at_list begins b.at way).context) w.text
      (one (local_decl k))

abbrev pub NamesAreBound : Type 0
NamesAreBound = (p : Program Span) → IsProgram itself (λ m b. Unit {0}) p → (file : ℕ) (b : Body)
    → HasBody p file b → (m : Span) (w : tree.Word Span) (way : ListWay (tree.name m w) b.list)
    → IsBoundName p b m w way
