-- How far a type has been read, as the machine has it.
use Rattle.std.specs.Prelude.{◌≡◌, Option, option_map, Result, IfOk}
use Rattle.jr_text.specs.declared.spans.Span.{Span}
use Rattle.jr_ast.specs.View.{word_of, type_of}
use Rattle.jr_pstmt.specs.declared.type_state.TypeState.{TypeState}
use Rattle.jr_pstmt.specs.declared.type_state.TypeState.TheVariants as rust
use Rattle.jr_pstmt.specs.TypeMachine as machine

abbrev pub type_state : TypeState → machine.State Span
type_state (rust.Want primitive) = machine.want primitive
type_state (rust.Have type) = machine.have (type_of type)
type_state (rust.Dotted outer) = machine.dotted (word_of outer)

-- the next state, or that there is none
abbrev pub IsNextType : {E : Type 0} → Result (Option TypeState) E → Option (machine.State Span) →
    Type 0
IsNextType result next = IfOk result (λ s. option_map type_state s ≡ next)
