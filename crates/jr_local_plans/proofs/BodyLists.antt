-- The list of a body has nested spans.
use Rattle.std.proofs.Common.{ℕ}
use Rattle.jr_text.specs.declared.spans.Span.{Span}
use Rattle.jr_lex.specs.Places.{ItemsPlaced}
use Rattle.jr_grammar.specs.Layout.{itself}
use Rattle.jr_members.specs.WrittenLaws.{MembersAreWritten}
use Rattle.jr_bind.specs.Programs.{Program, IsProgram}
use Rattle.jr_pieces.specs.Nesting.{StandingListsAreNested}
use Rattle.jr_bodies.specs.BodyLaws.{IsNested}
use Rattle.jr_bodies.proofs.Nested.{bodies_are_nested}
use Rattle.jr_local.specs.Bodies.{Body, HasBody}

pub body_nested : ItemsPlaced → MembersAreWritten Span → StandingListsAreNested Span → (p : Program Span) → IsProgram itself (λ m b. Unit {0}) p → (file : ℕ) (b : Body) → HasBody p file b → IsNested b.list
body_nested placed written law = bodies_are_nested placed written law
