use Rattle.jr_member_moves.proofs.Keys as keys
use Rattle.jr_member_moves.proofs.laws.moves_static_move.Goals as goal

pub returns : goal.returns
returns c = keys.moves_static_move
