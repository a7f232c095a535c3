use Rattle.std.proofs.Common.{Bor, option_map, ap, sym, ◌∙◌}
use Rattle.jr_ast.specs.declared.exprs.Expr.{Expr}
use Rattle.jr_ast.specs.View.{expr_of}
use Rattle.jr_piece_sites.specs.Parts as parts
use Rattle.jr_piece_sites.specs.Pieces as pure
use Rattle.jr_piece_sites.proofs.pieces.expr_part.Goals as goal

pub returns-in-None : goal.returns-in-None
returns-in-None g c =
    ap (λ o. option_map pure.exp (option_map (λ (x : Bor (Expr g.row.A.Denot)). expr_of x.now) o)) (sym c.in-None.is)
    ∙ ap (option_map pure.exp) (c.expr_in.ensures ∙ ap (λ p. parts.exp_in p c.args.number) c.parts_of.ensures)

pub returns-in-Some : goal.returns-in-Some
returns-in-Some g c =
    ap (λ o. option_map pure.exp (option_map (λ (x : Bor (Expr g.row.A.Denot)). expr_of x.now) o)) (sym c.in-Some.is)
    ∙ ap (option_map pure.exp) (c.expr_in.ensures ∙ ap (λ p. parts.exp_in p c.args.number) c.parts_of.ensures)
