-- How far a list of statements has been read, as the machine has it.
use Rattle.std.specs.Prelude.{◌≡◌, Option, option_map, Result, IfOk}
use Rattle.jr_text.specs.declared.spans.Span.{Span}
use Rattle.jr_ast.specs.View.{word_of, type_of, expr_of, stmt_of}
use Rattle.jr_pexpr.specs.StateView.{state_view}
use Rattle.jr_pstmt.specs.declared.lists.Mode.{Mode}
use Rattle.jr_pstmt.specs.declared.lists.Mode.TheVariants as mode
use Rattle.jr_pstmt.specs.declared.lists.ListState.{ListState}
use Rattle.jr_pstmt.specs.StatementMachine as machine
use Rattle.jr_pstmt.specs.FrameView.{head_view, slot_view}
use Rattle.jr_pstmt.specs.TypeStateView.{type_state}
use Rattle.jr_pstmt.specs.PlaceView.{place_view}

abbrev pub mode_view : machine.Place Span → Mode → machine.State Span
mode_view p mode.Ready = machine.ready p.on p.all
mode_view p (mode.Done stmt) = machine.done p.on p.all (stmt_of stmt.value)
mode_view p (mode.Headed at head) = machine.headed p.on p.all at (head_view head)
mode_view p (mode.Returning at) = machine.returning p.on p.all at
mode_view p (mode.InExpr slot state) = machine.in_exp p.on p.all (slot_view slot) (state_view state)
mode_view p (mode.InEval state) = machine.in_eval p.on p.all (state_view state)
mode_view p (mode.Locked at lock) = machine.locked p.on p.all at (expr_of lock.value)
mode_view p (mode.InType at is_final type) =
    machine.in_type p.on p.all at is_final (type_state type)
mode_view p (mode.Named at is_final type name) =
    machine.named p.on p.all at is_final (type_of type) (word_of name)

abbrev pub list_state : ListState → machine.State Span
list_state s = mode_view (place_view s.place) s.mode

-- the next state, or that there is none
abbrev pub IsNextList : {E : Type 0} → Result (Option ListState) E → Option (machine.State Span) →
    Type 0
IsNextList result next = IfOk result (λ s. option_map list_state s ≡ next)
