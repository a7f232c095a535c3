use Rattle.std.proofs.Common.{◌+◌, ◌*◌, ◌≤◌}
use Rattle.jr_ast.specs.View.{stmt_of, stmts_of, else_of}
use Rattle.jr_ast.proofs.Sizes.{stmt_size, stmts_size, else_size}
use Rattle.jr_table.specs.Context.{locals_in}
use Rattle.jr_expr_sites.specs.StepView.{given}
use Rattle.jr_cfg.specs.StatementRoutes.{Leaves, Numbered, stmt, endings_steps}
use Rattle.jr_cfg.proofs.Limbs.{Going}
use Rattle.jr_cfg.proofs.statements.+stmt_walk.Given as goal

abbrev pub decreases-head : goal.decreases-head
decreases-head g l = 5 * stmt_size (stmt_of l.of.now)

abbrev pub decreases-branch : goal.decreases-branch
decreases-branch g l = 5 * (stmt_size (stmt_of l.yes.now) + else_size (else_of l.no.now)) + 3

abbrev pub decreases-sync : goal.decreases-sync
decreases-sync g l = 5 * stmts_size (stmts_of l.body.now) + 3

abbrev pub decreases-stmt : goal.decreases-stmt
decreases-stmt g l = 5 * stmt_size (stmt_of l.of.now) + 1

abbrev pub decreases-stmts : goal.decreases-stmts
decreases-stmts g l = 5 * stmts_size (stmts_of l.body.now) + 2

abbrev pub invariant-stmts-loop-of : goal.invariant-stmts-loop-of
invariant-stmts-loop-of g l = Going g.A.Mark.span_from g.A.Mark.fits_at (given g.F.Facts.decls g.F.Facts.types l.here) l.number l.path.steps.items l.first l.at l.body l.fn.out.items l.out.items l.after l.step l.of-index

abbrev pub invariant-stmt-loop-endings : goal.invariant-stmt-loop-endings
invariant-stmt-loop-endings g l = record {
  size : stmt_size (stmt_of l.of) ≤ stmt_size (stmt_of l.fn.of);
  left : Leaves g.A.Mark.span_from g.A.Mark.fits_at (given g.F.Facts.decls g.F.Facts.types l.here) (l.fn.number + locals_in (stmt_of l.fn.of)) (Numbered g.A.Mark.span_from l.fn.number l.path.steps.items l.fn.base (stmt_of l.fn.of)) (stmt g.A.Mark.span_from l.path.steps.items l.fn.base (stmt_of l.fn.of)) (stmt_of l.of) l.number l.place.steps.items l.base (endings_steps l.endings.items) l.fn.out.items l.out.items;
}

abbrev pub decreases-stmt-loop-endings : goal.decreases-stmt-loop-endings
decreases-stmt-loop-endings g l = stmt_size (stmt_of l.of)
