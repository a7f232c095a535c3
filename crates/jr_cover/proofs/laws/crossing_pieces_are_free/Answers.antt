use Rattle.jr_cover.proofs.PiecesCross as laws
use Rattle.jr_cover.proofs.laws.crossing_pieces_are_free.Goals as goal

pub returns : goal.returns
returns g c = laws.crossing_pieces_are_free
