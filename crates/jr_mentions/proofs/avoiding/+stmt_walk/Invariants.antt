use Rattle.std.proofs.Common.{◌+◌, ◌*◌, ◌≡◌, drop}
use Rattle.jr_ast.specs.View.{stmt_of, stmts_of, else_of}
use Rattle.jr_ast.proofs.Sizes.{stmt_size, stmts_size, else_size}
use Rattle.jr_mentions.specs.ApartView.{names_in}
use Rattle.jr_mentions.specs.AvoidTests.{avoids_stmts}
use Rattle.jr_mentions.proofs.avoiding.+stmt_walk.Given as goal

abbrev pub decreases-spares_stmt : goal.decreases-spares_stmt
decreases-spares_stmt g l = 2 * stmt_size (stmt_of l.of.now)

abbrev pub decreases-spares_else : goal.decreases-spares_else
decreases-spares_else g l = 2 * else_size (else_of l.of.now) + 1

abbrev pub decreases-spares_stmts : goal.decreases-spares_stmts
decreases-spares_stmts g l = 2 * stmts_size (stmts_of l.body.now) + 1

-- what is left passes, if all does
abbrev pub invariant-spares_stmts-loop-of : goal.invariant-spares_stmts-loop-of
invariant-spares_stmts-loop-of g l = avoids_stmts (names_in l.apart) (stmts_of (drop l.of-index l.body)) ≡ avoids_stmts (names_in l.apart) (stmts_of l.body)
