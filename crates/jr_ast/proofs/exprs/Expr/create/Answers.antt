use Rattle.jr_ast.proofs.Rows.{expr_kind-New}
use Rattle.jr_ast.proofs.exprs.Expr.create.Goals as goal

pub returns : goal.returns
returns g c = expr_kind-New _ c.args.mark c.args.ty c.args.args
