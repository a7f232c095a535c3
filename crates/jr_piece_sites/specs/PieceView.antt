-- The pure pieces and parts that references stand for.
use Rattle.jr_ast.specs.View.{expr_of, stmt_of, member_of}
use Rattle.jr_piece_sites.specs.declared.pieces.Piece as raw
use Rattle.jr_piece_sites.specs.declared.pieces.Piece.TheVariants as variant
use Rattle.jr_piece_sites.specs.Pieces as piece

module _ {A : Type 0} where
  abbrev pub piece_of : raw.Piece A → piece.Piece A
  piece_of (variant.Member r) = piece.member (member_of r.now)
  piece_of (variant.Stmt r) = piece.stmt (stmt_of r.now)
  piece_of (variant.Expr r) = piece.exp (expr_of r.now)
