use Rattle.jr_ast.proofs.Rows.{expr_kind-Call_on}
use Rattle.jr_ast.proofs.exprs.Expr.call_on.Goals as goal

pub returns : goal.returns
returns g c = expr_kind-Call_on _ c.args.mark c.args.target c.args.name c.args.args
