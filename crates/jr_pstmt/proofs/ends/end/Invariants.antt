use Rattle.std.proofs.Common.{◌≡◌, length}
use Rattle.jr_pexpr.specs.Marked.{join}
use Rattle.jr_pstmt.specs.PlaceView.{on, all}
use Rattle.jr_pstmt.specs.StatementMachine as machine
use Rattle.jr_pstmt.specs.StatementView.{stmt_in}
use Rattle.jr_pstmt.proofs.ends.end.Given as goal

abbrev pub invariant-loop-frame : goal.invariant-loop-frame
invariant-loop-frame l = machine.ended join (on l.place) (all l.place) (stmt_in l.stmt) ≡ machine.ended join (on l.fn.place) (all l.fn.place) (stmt_in l.fn.stmt)

abbrev pub decreases-loop-frame : goal.decreases-loop-frame
decreases-loop-frame l = length (on l.place)
