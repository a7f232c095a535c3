use Rattle.std.proofs.Common.{◌+◌, ◌*◌, ◌≡◌, take, map, Option}
use Rattle.std.specs.Fn.{FnReturnsAt}
use Rattle.jr_ast.specs.View.{stmt_of, stmts_of, else_of}
use Rattle.jr_ast.specs.Remarked as maps
use Rattle.jr_paths_copies.specs.Same as same
use Rattle.jr_ast.proofs.Sizes.{stmt_size, stmts_size, else_size}
use Rattle.jr_paths_copies.proofs.stmt_marks.+stmt_marks.Given as goal

abbrev pub decreases-stmt : goal.decreases-stmt
decreases-stmt g l = 3 * stmt_size (stmt_of l.of.now)

abbrev pub decreases-else_stmt : goal.decreases-else_stmt
decreases-else_stmt g l = 3 * else_size (else_of l.of.now) + 1

abbrev pub decreases-stmts : goal.decreases-stmts
decreases-stmts g l = 3 * stmts_size (stmts_of l.parts.now) + 1

-- the copies so far are those of the parts so far
abbrev pub invariant-stmts-loop-part : goal.invariant-stmts-loop-part
invariant-stmts-loop-part g l =
    (h : g.row.B.Denot → Option g.row.B.Denot) (k : g.row.A.Denot → Option g.row.B.Denot) → same.Agree (FnReturnsAt g.F.Fn l.f) h k
    → map (λ x. maps.map_stmt h (stmt_of x)) l.copies.items ≡ map (λ x. maps.map_stmt k (stmt_of x)) (take l.part-index l.parts)
