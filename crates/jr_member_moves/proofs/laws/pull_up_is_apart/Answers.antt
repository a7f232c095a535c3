use Rattle.jr_member_moves.proofs.Apart as apart
use Rattle.jr_member_moves.proofs.laws.pull_up_is_apart.Goals as goal

pub returns : goal.returns
returns c = apart.pull_up_is_apart
