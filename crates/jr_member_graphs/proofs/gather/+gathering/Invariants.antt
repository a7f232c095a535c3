use Rattle.std.proofs.Common.{◌+◌, ◌*◌, ◌≤◌}
use Rattle.jr_ast.specs.View.{stmt_of, stmts_of, else_of}
use Rattle.jr_ast.proofs.Sizes.{stmt_size, stmts_size, else_size}
use Rattle.jr_expr_sites.specs.KnownFacts.{meaning_at}
use Rattle.jr_expr_sites.specs.StepView.{given}
use Rattle.jr_member_graphs.specs.Gathering.{Leaves}
use Rattle.jr_member_graphs.specs.Notes.{both, stmt_notes}
use Rattle.jr_member_graphs.specs.NotesView.{notes_in}
use Rattle.jr_member_graphs.proofs.Gathered.{Going}
use Rattle.jr_member_graphs.proofs.gather.+gathering.Given as goal

abbrev pub decreases-head : goal.decreases-head
decreases-head g l = 5 * stmt_size (stmt_of l.of.now)

abbrev pub decreases-branch : goal.decreases-branch
decreases-branch g l = 5 * (stmt_size (stmt_of l.yes.now) + else_size (else_of l.no.now)) + 3

abbrev pub decreases-sync : goal.decreases-sync
decreases-sync g l = 5 * stmts_size (stmts_of l.body.now) + 3

abbrev pub decreases-stmt : goal.decreases-stmt
decreases-stmt g l = 5 * stmt_size (stmt_of l.of.now) + 1

abbrev pub decreases-stmts : goal.decreases-stmts
decreases-stmts g l = 5 * stmts_size (stmts_of l.body.now) + 2

abbrev pub invariant-stmts-loop-of : goal.invariant-stmts-loop-of
invariant-stmts-loop-of g l =
    let G = given g.F.Facts.decls g.F.Facts.types l.here in
    Going g.A.Mark.span_from g.A.Mark.fits_at (meaning_at G) l.at l.body (notes_in G.member l.fn.steps.items l.fn.begins.items) (notes_in G.member l.steps.items l.begins.items) l.of-index

abbrev pub invariant-stmt-loop-reached : goal.invariant-stmt-loop-reached
invariant-stmt-loop-reached g l =
    let G = given g.F.Facts.decls g.F.Facts.types l.here in
    record {
      size : stmt_size (stmt_of l.of) ≤ stmt_size (stmt_of l.fn.of);
      left : Leaves g.A.Mark.span_from g.A.Mark.fits_at (meaning_at G) (both (notes_in G.member l.fn.steps.items l.fn.begins.items) (stmt_notes g.A.Mark.span_from (meaning_at G) l.fn.base (stmt_of l.fn.of)))
          (notes_in G.member l.steps.items l.begins.items) l.base (stmt_of l.of);
    }

abbrev pub decreases-stmt-loop-reached : goal.decreases-stmt-loop-reached
decreases-stmt-loop-reached g l = stmt_size (stmt_of l.of)
