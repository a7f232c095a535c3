use Rattle.std.proofs.Common.{◌+◌, ◌*◌, ◌≡◌, ◌++◌, drop, length}
use Rattle.jr_ast.specs.View.{stmt_of, stmts_of, else_of}
use Rattle.jr_ast.proofs.Sizes.{stmt_size, stmts_size, else_size}
use Rattle.jr_scopes.specs.Tracked.{locals_of}
use Rattle.jr_bind_expr.specs.Fits.{FitsStmts}
use Rattle.jr_bind_expr.specs.Places.{context_of}
use Rattle.jr_bind_parts.specs.TypedFlow.{body_slots}
use Rattle.jr_bind_parts.proofs.Bodies.{Going}
use Rattle.jr_bind_parts.proofs.statements.+stmt_walk.Given as goal

abbrev pub decreases-stmt : goal.decreases-stmt
decreases-stmt g l = 4 * stmt_size (stmt_of l.of.now)

abbrev pub decreases-inner : goal.decreases-inner
decreases-inner g l = 4 * stmt_size (stmt_of l.of.now) + 1

abbrev pub decreases-otherwise : goal.decreases-otherwise
decreases-otherwise g l = 4 * else_size (else_of l.of.now) + 2

abbrev pub decreases-item : goal.decreases-item
decreases-item g l = 4 * stmt_size (stmt_of l.of.now) + 1

abbrev pub decreases-stmts : goal.decreases-stmts
decreases-stmts g l = 4 * stmts_size (stmts_of l.body.now) + 2

abbrev pub invariant-stmts-loop-of : goal.invariant-stmts-loop-of
invariant-stmts-loop-of g l = record {
  depth : l.depth ≡ length (locals_of l.fn.place.locals);
  own : l.own ≡ l.fn.place.own;
  fits : FitsStmts (λ m b. (g.A.Mark.span_from m b).from) g.A.Mark.fits_at l.at (stmts_of (drop l.of-index l.body));
  slots : l.types ++ body_slots l.table l.behind.number (context_of l.place) (stmts_of (drop l.of-index l.body)) ≡ l.fn.types ++ body_slots l.table l.number (context_of l.fn.place) (stmts_of l.body);
  going : Going (λ m b. (g.A.Mark.span_from m b).from) l.table l.number l.fn.place l.at (stmts_of l.body) l.fn.log.items l.behind l.place l.log.items (stmts_of (drop l.of-index l.body));
}
