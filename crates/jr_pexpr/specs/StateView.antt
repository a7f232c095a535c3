-- How far an expression has been read, as the machine has it.
use Rattle.std.specs.Prelude.{List}
use Rattle.jr_text.specs.declared.spans.Span.{Span}
use Rattle.jr_ast.specs.View.{word_of, type_of, expr_of}
use Rattle.jr_pexpr.specs.declared.state.Mode.{Mode}
use Rattle.jr_pexpr.specs.declared.state.Mode.TheVariants as mode
use Rattle.jr_pexpr.specs.declared.state.State.{State}
use Rattle.jr_pexpr.specs.StackView.{stack}
use Rattle.jr_pexpr.specs.Machine as machine

abbrev pub mode_view : List (machine.Frame Span) → Mode → machine.State Span
mode_view fs mode.Want = machine.want fs
mode_view fs (mode.Have e) = machine.have fs (expr_of e.value)
mode_view fs (mode.Dotted e) = machine.dotted fs (expr_of e.value)
mode_view fs (mode.AtSuper at) = machine.at_super fs at
mode_view fs (mode.SuperDotted at) = machine.super_dotted fs at
mode_view fs (mode.AtNew at) = machine.at_new fs at
mode_view fs (mode.NewNamed at type) = machine.new_named fs at (type_of type)
mode_view fs (mode.NewDotted at outer) = machine.new_dotted fs at (word_of outer)

abbrev pub state_view : State → machine.State Span
state_view s = mode_view (stack s.on) s.mode
