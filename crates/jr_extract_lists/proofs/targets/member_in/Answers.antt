use Rattle.jr_extract_lists.proofs.FoundTargets.{no_head}
use Rattle.jr_extract_lists.proofs.targets.member_in.Goals as goal

pub unreachable-requires : goal.unreachable-requires
unreachable-requires c = no_head c.args.part.now _ c.in-Head.is c.requires
