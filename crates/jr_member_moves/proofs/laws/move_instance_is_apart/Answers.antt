use Rattle.jr_member_moves.proofs.Apart as apart
use Rattle.jr_member_moves.proofs.laws.move_instance_is_apart.Goals as goal

pub returns : goal.returns
returns c = apart.move_instance_is_apart
