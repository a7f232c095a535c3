use Rattle.jr_cover.proofs.PieceEnds as laws
use Rattle.jr_cover.proofs.laws.pieces_come_to_their_end.Goals as goal

pub returns : goal.returns
returns g c = record {
  expressions = laws.expressions_come_to_their_end;
  lists = laws.statements_come_to_their_end;
}
