use Rattle.jr_cover.proofs.PieceWrites as laws
use Rattle.jr_cover.proofs.laws.pieces_write_their_locals.Goals as goal

pub returns : goal.returns
returns g c = record {
  expressions = laws.expressions_write_their_locals;
  lists = laws.statements_write_their_locals;
}
