use Rattle.std.proofs.Common.{ap, sym, ◌∙◌}
use Rattle.jr_piece_sites.specs.Pieces as pure
use Rattle.jr_piece_sites.specs.PieceView.{piece_of}
use Rattle.jr_piece_sites.proofs.pieces.part.Goals as goal

pub returns-in-Member : goal.returns-in-Member
returns-in-Member g c = c.member_part.ensures ∙ ap (λ p. pure.part_of (piece_of p) c.args.number) (sym c.in-Member.is)

pub returns-in-Stmt : goal.returns-in-Stmt
returns-in-Stmt g c = c.stmt_part.ensures ∙ ap (λ p. pure.part_of (piece_of p) c.args.number) (sym c.in-Stmt.is)

pub returns-in-Expr : goal.returns-in-Expr
returns-in-Expr g c = c.expr_part.ensures ∙ ap (λ p. pure.part_of (piece_of p) c.args.number) (sym c.in-Expr.is)
