-- What has been begun, as the machine has it.
use Rattle.std.specs.Prelude.{List, [], ◌∷◌}
use Rattle.jr_text.specs.declared.spans.Span.{Span}
use Rattle.jr_ast.specs.View.{word_of, type_of, expr_of, exprs_of, target_of}
use Rattle.jr_pexpr.specs.declared.frames.Operand.{Operand}
use Rattle.jr_pexpr.specs.declared.frames.Operand.TheVariants as operand
use Rattle.jr_pexpr.specs.declared.frames.Head.{Head}
use Rattle.jr_pexpr.specs.declared.frames.Head.TheVariants as head
use Rattle.jr_pexpr.specs.declared.frames.Bracket.{Bracket}
use Rattle.jr_pexpr.specs.declared.frames.Bracket.TheVariants as bracket
use Rattle.jr_pexpr.specs.declared.frames.Frame.{Frame}
use Rattle.jr_pexpr.specs.declared.frames.Frame.TheVariants as frame
use Rattle.jr_pexpr.specs.PieceView.{way_view}
use Rattle.jr_pexpr.specs.Machine as machine

abbrev pub operand_view : Operand → machine.Frame Span
operand_view (operand.Unary at op) = machine.in_unary at op
operand_view (operand.Bump at way) = machine.in_bump at (way_view way)
operand_view (operand.Binary op left) = machine.in_binary op (expr_of left.value)
operand_view (operand.Assign to) = machine.in_assign (expr_of to.value)
operand_view (operand.Compound op to) = machine.in_compound op (expr_of to.value)
operand_view (operand.Cast at type) = machine.in_cast at (type_of type)

abbrev pub head_view : Head → machine.Head Span
head_view (head.Call at target word) = machine.call_head at (target_of target) (word_of word)
head_view (head.SuperCall at word) = machine.super_head at (word_of word)
head_view (head.Create at type) = machine.create_head at (type_of type)

abbrev pub bracket_view : Bracket → machine.Frame Span
bracket_view (bracket.Paren at) = machine.in_paren at
bracket_view (bracket.Args head args) = machine.in_args (head_view head) (exprs_of args.items)

abbrev pub frame_view : Frame → machine.Frame Span
frame_view (frame.Operand o) = operand_view o
frame_view (frame.Bracket b) = bracket_view b

abbrev pub onto : List Frame → List (machine.Frame Span) → List (machine.Frame Span)
onto [] below = below
onto (f ∷ fs) below = onto fs (frame_view f ∷ below)

-- the last stands on top
abbrev pub frames_view : List Frame → List (machine.Frame Span)
frames_view fs = onto fs []
