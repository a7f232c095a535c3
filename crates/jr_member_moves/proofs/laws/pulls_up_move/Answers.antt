use Rattle.jr_member_moves.proofs.Keys as keys
use Rattle.jr_member_moves.proofs.laws.pulls_up_move.Goals as goal

pub returns : goal.returns
returns c = keys.pulls_up_move
