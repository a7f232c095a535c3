-- How far arguments have been read, as the machine has it.
use Rattle.std.specs.Prelude.{◌≡◌, Option, option_map, Result, IfOk}
use Rattle.jr_text.specs.declared.spans.Span.{Span}
use Rattle.jr_ast.specs.View.{exprs_of}
use Rattle.jr_pexpr.specs.StateView.{state_view}
use Rattle.jr_punit_members.specs.declared.args.ArgState.{ArgState}
use Rattle.jr_pstmt.specs.ArgumentMachine as machine

abbrev pub arg_state : ArgState → machine.State Span
arg_state s = machine.in_argument (exprs_of s.args.items) (state_view s.last)

-- the next state, or that there is none
abbrev pub IsNextArg : {E : Type 0} → Result (Option ArgState) E → Option (machine.State Span) →
    Type 0
IsNextArg result next = IfOk result (λ s. option_map arg_state s ≡ next)
