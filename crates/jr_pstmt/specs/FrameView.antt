-- What has been begun, as the machine has it.
use Rattle.std.specs.Prelude.{List, [], ◌∷◌}
use Rattle.jr_text.specs.declared.spans.Span.{Span}
use Rattle.jr_ast.specs.View.{word_of, type_of, expr_of, stmt_of, stmts_of}
use Rattle.jr_pstmt.specs.declared.frames.Head.{Head}
use Rattle.jr_pstmt.specs.declared.frames.Head.TheVariants as head
use Rattle.jr_pstmt.specs.declared.frames.Slot.{Slot}
use Rattle.jr_pstmt.specs.declared.frames.Slot.TheVariants as slot
use Rattle.jr_pstmt.specs.declared.frames.Branch.{Branch}
use Rattle.jr_pstmt.specs.declared.frames.Branch.TheVariants as branch
use Rattle.jr_pstmt.specs.declared.frames.Block.{Block}
use Rattle.jr_pstmt.specs.declared.frames.Block.TheVariants as block
use Rattle.jr_pstmt.specs.declared.frames.Frame.{Frame}
use Rattle.jr_pstmt.specs.declared.frames.Frame.TheVariants as frame
use Rattle.jr_pstmt.specs.StatementMachine as machine

abbrev pub head_view : Head → machine.Head
head_view head.If = machine.if_head
head_view head.While = machine.while_head
head_view head.Sync = machine.sync_head

abbrev pub slot_view : Slot → machine.Slot Span
slot_view (slot.Local at is_final type name) =
    machine.for_local at is_final (type_of type) (word_of name)
slot_view (slot.Return at) = machine.for_return at
slot_view (slot.Head at head) = machine.for_head at (head_view head)

abbrev pub branch_view : Branch → machine.Frame Span
branch_view (branch.Then at condition) = machine.in_then at (expr_of condition.value)
branch_view (branch.Else at condition first) =
    machine.in_else at (expr_of condition.value) (stmt_of first.value)
branch_view (branch.Loop at condition) = machine.in_loop at (expr_of condition.value)

abbrev pub block_view : Block → machine.Frame Span
block_view (block.Plain at stmts) = machine.in_block at (stmts_of stmts.items)
block_view (block.Sync at lock stmts) =
    machine.in_sync at (expr_of lock.value) (stmts_of stmts.items)

abbrev pub frame_view : Frame → machine.Frame Span
frame_view (frame.Branch b) = branch_view b
frame_view (frame.Block b) = block_view b

abbrev pub onto : List Frame → List (machine.Frame Span) → List (machine.Frame Span)
onto [] below = below
onto (f ∷ fs) below = onto fs (frame_view f ∷ below)

-- the last stands on top
abbrev pub frames_view : List Frame → List (machine.Frame Span)
frames_view fs = onto fs []
