use Rattle.jr_cover.proofs.PieceReads as laws
use Rattle.jr_cover.proofs.laws.pieces_read_their_locals.Goals as goal

pub returns : goal.returns
returns g c = record {
  expressions = laws.expressions_read_their_locals;
  lists = laws.statements_read_their_locals;
}
