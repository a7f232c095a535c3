use Rattle.jr_paths_nodes.proofs.MemberWrites.{begins_none, begins_some}
use Rattle.jr_paths_nodes.proofs.member_writes.begin_of_members.Goals as goal

pub returns-in-None : goal.returns-in-None
returns-in-None g c = begins_none _ c.args.class.now c.len.result c.len.ensures c.in-None.is

pub returns-in-Some : goal.returns-in-Some
returns-in-Some g c = begins_some _ c.args.class.now c.len-in-Some.result c.in-Some.field-0 c.len-in-Some.ensures c.in-Some.is
