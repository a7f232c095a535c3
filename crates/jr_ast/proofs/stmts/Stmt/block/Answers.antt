use Rattle.jr_ast.proofs.Rows.{stmt_kind-Block}
use Rattle.jr_ast.proofs.stmts.Stmt.block.Goals as goal

pub returns : goal.returns
returns g c = stmt_kind-Block _ c.args.mark c.args.body
