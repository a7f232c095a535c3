use Rattle.std.proofs.Common.{◌∙◌, ap, sym}
use Rattle.std.specs.Prelude.{is_some}
use Rattle.jr_ast.specs.View.{stmt_of}
use Rattle.jr_pexpr.specs.Marked.{join}
use Rattle.jr_pstmt.specs.ListView.{mode_view}
use Rattle.jr_pstmt.specs.PlaceView.{on, all, place_view}
use Rattle.jr_pstmt.specs.StatementMachine.{whole}
use Rattle.jr_pstmt.proofs.ListFrames.{ended_whole}
use Rattle.jr_pstmt.proofs.lists.ListState.is_whole.Goals as goal

pub returns-in-Done : goal.returns-in-Done
returns-in-Done c =
    let p = c.args.self.now.place in
    c.has_no_list.ensures ∙ ended_whole (on p) (all p) (stmt_of c.in-Done.field-0.value) ∙ ap (λ m. is_some (whole join (mode_view (place_view p) m))) (sym c.in-Done.is)
