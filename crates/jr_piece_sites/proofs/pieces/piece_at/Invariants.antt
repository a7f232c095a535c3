use Rattle.std.proofs.Common.{◌≡◌, [], take, drop}
use Rattle.jr_ast.specs.View.{member_of}
use Rattle.jr_piece_sites.specs.Pieces as pure
use Rattle.jr_piece_sites.specs.Pieces.{FitsPiece, spotted}
use Rattle.jr_piece_sites.specs.PieceView.{piece_of}
use Rattle.jr_piece_sites.proofs.pieces.piece_at.Given as goal

abbrev pub invariant-loop-step : goal.invariant-loop-step
invariant-loop-step g l = record {
  fits : FitsPiece g.A.Mark.span_from g.A.Mark.fits_at l.base (piece_of l.of);
  leads : pure.piece_at (spotted g.A.Mark.span_from l.base (take l.step-index l.steps) (piece_of l.of)) (drop l.step-index l.steps) ≡ pure.piece_at (spotted g.A.Mark.span_from l.initial.base [] (pure.member (member_of l.member))) l.steps;
}
