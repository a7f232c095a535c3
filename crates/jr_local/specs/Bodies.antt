-- The bodies of methods and constructors are those of `jr_bodies`.
use Rattle.std.specs.Prelude.{ℕ, Option}
use Rattle.jr_text.specs.declared.spans.Span.{Span}
use Rattle.jr_ast.specs.MemberTree as syntax
use Rattle.jr_table.specs.Decls.{MemberKey}
use Rattle.jr_table.specs.Errors.{Part}
use Rattle.jr_bind.specs.Bounds.{Bound}
use Rattle.jr_bind.specs.Programs.{Program}
use Rattle.jr_bodies.specs.Bodies as bodies

abbrev pub begins : Span → ℕ → ℕ
begins = bodies.begins

abbrev pub Body : Type 0
Body = bodies.Body

abbrev pub body_of_member : MemberKey → (base : ℕ) → syntax.Member Span → Bound → Option Body
body_of_member = bodies.body_of_member

abbrev pub body_of : MemberKey → (base : ℕ) → Part Span → Bound → Option Body
body_of = bodies.body_of

abbrev pub HasBody : (p : Program Span) (file : ℕ) (b : Body) → Type 0
HasBody = bodies.HasBody
