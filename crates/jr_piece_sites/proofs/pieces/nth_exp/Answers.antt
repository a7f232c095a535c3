use Rattle.std.proofs.Common.{Bor, option_map, ap, sym, ◌∙◌}
use Rattle.jr_ast.specs.declared.exprs.Expr.{Expr}
use Rattle.jr_ast.specs.View.{expr_of}
use Rattle.jr_piece_sites.specs.Pieces as pure
use Rattle.jr_piece_sites.proofs.Places as place
use Rattle.jr_piece_sites.proofs.pieces.nth_exp.Goals as goal

pub returns-in-None : goal.returns-in-None
returns-in-None g c =
    ap (λ o. option_map pure.exp (option_map expr_of (option_map (λ (x : Bor (Expr g.row.A.Denot)). x.now) o))) (sym c.in-None.is)
    ∙ ap (λ o. option_map pure.exp (option_map expr_of o)) c.nth.ensures ∙ ap (option_map pure.exp) (place.nth_view c.args.args.now c.args.number)

pub returns-in-Some : goal.returns-in-Some
returns-in-Some g c =
    ap (λ o. option_map pure.exp (option_map expr_of (option_map (λ (x : Bor (Expr g.row.A.Denot)). x.now) o))) (sym c.in-Some.is)
    ∙ ap (λ o. option_map pure.exp (option_map expr_of o)) c.nth.ensures ∙ ap (option_map pure.exp) (place.nth_view c.args.args.now c.args.number)
