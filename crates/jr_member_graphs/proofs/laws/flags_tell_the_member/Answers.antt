use Rattle.jr_member_graphs.proofs.MemberFlagging.{flags_tell_the_member}
use Rattle.jr_member_graphs.proofs.laws.flags_tell_the_member.Goals as goal

pub returns : goal.returns
returns c G o is_assigned inits are e = flags_tell_the_member G o is_assigned inits are e
