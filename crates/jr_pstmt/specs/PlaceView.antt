-- Where a statement stands, as the machine has it.
use Rattle.std.specs.Prelude.{◌≡◌, List, Result, IfOk}
use Rattle.jr_text.specs.declared.spans.Span.{Span}
use Rattle.jr_ast.specs.View.{stmts_of}
use Rattle.jr_ast.specs.StatementTree.{Stmts}
use Rattle.jr_pstmt.specs.declared.places.Place.{Place}
use Rattle.jr_pstmt.specs.FrameView.{frames_view}
use Rattle.jr_pstmt.specs.StatementMachine as machine

-- what has been begun, the innermost first
abbrev pub on : Place → List (machine.Frame Span)
on p = frames_view p.frames.items

-- the list below it
abbrev pub all : Place → Stmts Span
all p = stmts_of p.stmts.items

abbrev pub place_view : Place → machine.Place Span
place_view p = machine.place (on p) (all p)

-- the place
abbrev pub IsPlace : {E : Type 0} → Result Place E → machine.Place Span → Type 0
IsPlace result p = IfOk result (λ made. place_view made ≡ p)
