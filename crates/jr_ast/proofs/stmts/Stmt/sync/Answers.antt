use Rattle.jr_ast.proofs.Rows.{stmt_kind-Sync}
use Rattle.jr_ast.proofs.stmts.Stmt.sync.Goals as goal

pub returns : goal.returns
returns g c = stmt_kind-Sync _ c.args.mark c.args.lock c.args.body
