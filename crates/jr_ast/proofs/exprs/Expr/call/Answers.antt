use Rattle.jr_ast.proofs.Rows.{expr_kind-Call}
use Rattle.jr_ast.proofs.exprs.Expr.call.Goals as goal

pub returns : goal.returns
returns g c = expr_kind-Call _ c.args.mark c.args.name c.args.args
