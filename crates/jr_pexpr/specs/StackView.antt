-- A stack as the machine has it.
use Rattle.std.specs.Prelude.{List}
use Rattle.jr_text.specs.declared.spans.Span.{Span}
use Rattle.jr_pexpr.specs.declared.stack.Stack.{Stack}
use Rattle.jr_pexpr.specs.FrameView.{frames_view}
use Rattle.jr_pexpr.specs.Machine as machine

-- what has been begun, the innermost first
abbrev pub stack : Stack → List (machine.Frame Span)
stack s = frames_view s.frames.items
