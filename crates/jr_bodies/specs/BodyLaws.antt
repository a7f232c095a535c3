-- What holds of the bodies of a program.
use Rattle.std.specs.Prelude.{◌≡◌, ◌↔◌, ℕ, Some}
use Rattle.jr_text.specs.declared.spans.Span.{Span}
use Rattle.jr_ast.specs.Tree as tree
use Rattle.jr_ast.specs.StatementTree as statement
use Rattle.jr_grammar.specs.Layout.{itself}
use Rattle.jr_table.specs.Keys.{Ty}
use Rattle.jr_table.specs.Binding.{HasType}
use Rattle.jr_expr_types.specs.Slots.{find_type}
use Rattle.jr_bind.specs.Programs.{Program, IsProgram}
use Rattle.jr_pieces.specs.Ways.{ListWay}
use Rattle.jr_pieces.specs.Standings.{at_list}
use Rattle.jr_pieces.specs.Finding.{list_path}
use Rattle.jr_pieces.specs.Nesting.{ListNested}
use Rattle.jr_bodies.specs.Bodies.{begins, Body, HasBody}

-- a list with nested spans, as one that stands within a node and behind its first byte
pub record IsNested (b : statement.Stmts Span) : Type 0 where
  pub to : ℕ
  pub nested : ListNested itself (record { from = 0; to = to }) 1 b

abbrev pub BodiesAreNested : Type 0
BodiesAreNested = (p : Program Span) → IsProgram itself (λ m b. Unit {0}) p → (file : ℕ)
    (b : Body) → HasBody p file b → IsNested b.list

-- By the path of a way binding knows the type that the expression has where it stands.
abbrev pub BodiesHaveTypes : Type 0
BodiesHaveTypes = (p : Program Span) → IsProgram itself (λ m b. Unit {0}) p → (file : ℕ)
    (b : Body) → HasBody p file b → (f : tree.Exp Span) (way : ListWay f b.list) (t : Ty)
    → (find_type b.bound.types (list_path b.front way) ≡ Some t)
    ↔ HasType p.rows (at_list begins b.at way).context f t
