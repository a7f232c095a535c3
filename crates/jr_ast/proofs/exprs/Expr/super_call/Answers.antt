use Rattle.jr_ast.proofs.Rows.{expr_kind-SuperCall}
use Rattle.jr_ast.proofs.exprs.Expr.super_call.Goals as goal

pub returns : goal.returns
returns g c = expr_kind-SuperCall _ c.args.mark c.args.name c.args.args
