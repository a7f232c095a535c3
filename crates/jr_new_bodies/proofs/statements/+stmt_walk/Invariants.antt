use Rattle.std.proofs.Common.{◌+◌, ◌*◌, ◌≡◌, ◌≤◌, drop, length}
use Rattle.jr_ast.specs.View.{stmt_of, stmts_of, else_of}
use Rattle.jr_ast.proofs.Sizes.{stmt_size, stmts_size, else_size}
use Rattle.jr_new_bodies.specs.OutputView.{gathered}
use Rattle.jr_new_bodies.specs.Known.{context_of}
use Rattle.jr_table.specs.Context.{locals_in}
use Rattle.jr_new_bodies.specs.Bodies.{StmtGathers}
use Rattle.jr_new_bodies.specs.Moves.{own_key}
use Rattle.jr_new_bodies.specs.Lasts.{Leaves}
use Rattle.jr_new_bodies.proofs.Bodying.{Going}
use Rattle.jr_new_bodies.proofs.statements.+stmt_walk.Given as goal

abbrev pub decreases-head : goal.decreases-head
decreases-head g l = 5 * stmt_size (stmt_of l.of.now)

abbrev pub decreases-stmt : goal.decreases-stmt
decreases-stmt g l = 5 * stmt_size (stmt_of l.of.now) + 1

abbrev pub decreases-branch : goal.decreases-branch
decreases-branch g l = 5 * (stmt_size (stmt_of l.yes.now) + else_size (else_of l.no.now)) + 3

abbrev pub decreases-sync : goal.decreases-sync
decreases-sync g l = 5 * stmts_size (stmts_of l.body.now) + 3

abbrev pub decreases-inner : goal.decreases-inner
decreases-inner g l = 5 * stmt_size (stmt_of l.of.now) + 1

abbrev pub decreases-stmts : goal.decreases-stmts
decreases-stmts g l = 5 * stmts_size (stmts_of l.body.now) + 2

abbrev pub invariant-stmts-loop-of : goal.invariant-stmts-loop-of
invariant-stmts-loop-of g l = record {
  depth : l.depth ≡ length (context_of l.fn.here).locals;
  own : (context_of l.fn.here).own ≡ own_key (context_of l.fn.here).member l.own;
  going : Going g.A.Mark.span_from g.A.Mark.fits_at l.number l.fn.here l.path.steps.items l.at (stmts_of l.body) (gathered l.fn.out) l.after l.here l.step (gathered l.out) (stmts_of (drop l.of-index l.body));
}

abbrev pub invariant-inner-loop-place : goal.invariant-inner-loop-place
invariant-inner-loop-place g l = record {
  depth : l.depth ≡ length (context_of l.fn.here).locals;
  own : (context_of l.fn.here).own ≡ own_key (context_of l.fn.here).member l.own;
  size : stmt_size (stmt_of l.of) ≤ stmt_size (stmt_of l.fn.of);
  left : Leaves g.A.Mark.span_from g.A.Mark.fits_at l.fn.here (l.fn.number + locals_in (stmt_of l.fn.of)) (λ new. StmtGathers g.A.Mark.span_from l.fn.here l.fn.number l.fn.base (stmt_of l.fn.of) (gathered l.fn.out) new) (stmt_of l.of) l.number l.place.steps.items l.base l.here (gathered l.out);
}

abbrev pub decreases-inner-loop-place : goal.decreases-inner-loop-place
decreases-inner-loop-place g l = stmt_size (stmt_of l.of)
