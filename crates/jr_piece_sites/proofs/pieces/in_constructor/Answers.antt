use Rattle.std.proofs.Common.{List, ap, sym, ◌∙◌}
use Rattle.jr_ast.specs.declared.exprs.Expr.{Expr}
use Rattle.jr_ast.specs.View.{exprs_of, stmts_of, args_of}
use Rattle.jr_piece_sites.specs.Pieces as pure
use Rattle.jr_piece_sites.proofs.pieces.in_constructor.Goals as goal

pub returns-in-None : goal.returns-in-None
returns-in-None g c = c.nth_stmt.ensures ∙ ap (λ o. pure.in_constructor (args_of o) (stmts_of c.args.body.now) c.args.number) (sym c.in-None.is)

pub returns-in-Some : goal.returns-in-Some
returns-in-Some g c =
    c.exps_then.ensures ∙ ap (λ (l : List (Expr g.row.A.Denot)). pure.exps_then (exprs_of l) (stmts_of c.args.body.now) c.args.number) c.deref.ensures.value
    ∙ ap (λ o. pure.in_constructor (args_of o) (stmts_of c.args.body.now) c.args.number) (sym c.in-Some.is)
