-- What walks over parts of a body rest on, of each body of a program.
use Rattle.std.specs.Prelude.{ℕ, []}
use Rattle.jr_text.specs.declared.spans.Span.{Span}
use Rattle.jr_grammar.specs.Layout.{itself}
use Rattle.jr_bind.specs.Programs.{Program, IsProgram}
use Rattle.jr_bodies.specs.Bodies.{Body, HasBody}
use Rattle.jr_local_ways.specs.ReadyWays.{ListReadyAt}
use Rattle.jr_local_walks.specs.Contexts.{IsBelow}

-- its statements may be walked
abbrev pub BodiesAreReady : Type 0
BodiesAreReady = (p : Program Span) → IsProgram itself (λ m n. Unit {0}) p → (file : ℕ) (b : Body)
    → HasBody p file b
    → ListReadyAt itself (λ m n. Unit {0}) p.rows b.bound b.at.base b.at [] b.front b.list

-- where it begins, parameters have numbers below that of the next local, and known types have rows
abbrev pub BodiesAreBelow : Type 0
BodiesAreBelow = (p : Program Span) → IsProgram itself (λ m n. Unit {0}) p → (file : ℕ) (b : Body)
    → HasBody p file b → IsBelow p.rows b.key b.at
