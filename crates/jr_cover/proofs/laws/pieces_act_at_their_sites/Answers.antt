use Rattle.jr_cover.proofs.PieceActs as laws
use Rattle.jr_cover.proofs.laws.pieces_act_at_their_sites.Goals as goal

pub returns : goal.returns
returns g c = record {
  expressions = laws.expressions_act_at_their_sites;
  lists = laws.statements_act_at_their_sites;
}
