use Rattle.std.proofs.Common.{◌≤◌}
use Rattle.jr_ast.proofs.stmts.StmtKind.TheLaws.{the_size}
use Rattle.jr_ast.proofs.+stmt_drop.Given as goal

abbrev pub decreases-stmts::StmtKind::drop : goal.decreases-stmts::StmtKind::drop
decreases-stmts::StmtKind::drop g l = goal.size-stmts::StmtKind::drop g l

abbrev pub invariant-stmts::StmtKind::drop-loop-self : goal.invariant-stmts::StmtKind::drop-loop-self
invariant-stmts::StmtKind::drop-loop-self g l = the_size g.row.A g.A.laws l.self ≤ the_size g.row.A g.A.laws l.fn.self
