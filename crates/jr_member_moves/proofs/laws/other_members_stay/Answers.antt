use Rattle.jr_member_moves.proofs.Keys as keys
use Rattle.jr_member_moves.proofs.laws.other_members_stay.Goals as goal

pub returns : goal.returns
returns c = keys.others_stay
