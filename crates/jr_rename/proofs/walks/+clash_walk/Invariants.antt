use Rattle.std.proofs.Common.{◌≡◌, ◌+◌, ◌*◌, drop}
use Rattle.jr_ast.specs.View.{stmt_of, stmts_of, else_of}
use Rattle.jr_ast.proofs.Sizes.{stmt_size, stmts_size, else_size}
use Rattle.jr_rename.specs.Walks.{asked_of, walk_of, in_stmts}
use Rattle.jr_rename.proofs.walks.+clash_walk.Given as goal

abbrev pub decreases-in_stmt : goal.decreases-in_stmt
decreases-in_stmt g l = 4 * stmt_size (stmt_of l.of.now)

abbrev pub decreases-within : goal.decreases-within
decreases-within g l = 4 * stmt_size (stmt_of l.of.now) + 1

abbrev pub decreases-in_else : goal.decreases-in_else
decreases-in_else g l = 4 * else_size (else_of l.of.now) + 2

abbrev pub decreases-in_block : goal.decreases-in_block
decreases-in_block g l = 4 * stmts_size (stmts_of l.body.now) + 2

abbrev pub decreases-in_stmts : goal.decreases-in_stmts
decreases-in_stmts g l = 4 * stmts_size (stmts_of l.body.now) + 1

-- the walk from here on is the walk from the first statement on
abbrev pub invariant-in_stmts-loop-of : goal.invariant-in_stmts-loop-of
invariant-in_stmts-loop-of g l = in_stmts (asked_of l.asked) (walk_of l.walk) (stmts_of (drop l.of-index l.body)) ≡ in_stmts (asked_of l.asked) (walk_of l.fn.walk) (stmts_of l.body)
