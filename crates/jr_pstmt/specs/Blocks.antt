-- What has been begun: which of it are lists, and what comes of the rest with a statement behind
-- it.
use Rattle.std.specs.Prelude.{Bool, true, false, ◌&&◌, not, List, [], ◌∷◌}
use Rattle.jr_ast.specs.StatementTree.{Stmt, branch, loop, no_else, otherwise}
use Rattle.jr_ast.specs.Marks.{stmt_mark}
use Rattle.jr_pstmt.specs.declared.frames.Frame.{Frame as RustFrame}
use Rattle.jr_pstmt.specs.FrameView.{frame_view}
use Rattle.jr_pstmt.specs.StatementMachine.{Frame, in_block, in_sync, in_then, in_else, in_loop}

module _ {A : Type 0} where
  abbrev pub is_list : Frame A → Bool
  is_list (in_block m ss) = true
  is_list (in_sync m e ss) = true
  is_list (in_then m c) = false
  is_list (in_else m c s) = false
  is_list (in_loop m c) = false

  abbrev pub has_no_list : List (Frame A) → Bool
  has_no_list [] = true
  has_no_list (f ∷ fs) = not (is_list f) && has_no_list fs

  -- what ends with the statement; a list waits for its closing brace
  abbrev pub with_body : (A → A → A) → Frame A → Stmt A → Stmt A
  with_body join (in_block m ss) s = s
  with_body join (in_sync m e ss) s = s
  with_body join (in_then m c) s = branch (join m (stmt_mark s)) c s no_else
  with_body join (in_else m c first) s = branch (join m (stmt_mark s)) c first (otherwise s)
  with_body join (in_loop m c) s = loop (join m (stmt_mark s)) c s

abbrev pub holds : RustFrame → Bool
holds f = is_list (frame_view f)
