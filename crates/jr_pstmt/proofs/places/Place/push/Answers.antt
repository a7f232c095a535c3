use Rattle.jr_pstmt.proofs.ListFrames.{pushed}
use Rattle.jr_pstmt.proofs.places.Place.push.Goals as goal

pub returns-then-is_list-clause-on : goal.returns-then-is_list-clause-on
returns-then-is_list-clause-on c = pushed c.args.self.now.frames.items _ c.args.frame c.in_ok-push.ensures.items

pub returns-else-is_list-clause-on : goal.returns-else-is_list-clause-on
returns-else-is_list-clause-on c = pushed c.args.self.now.frames.items _ c.args.frame c.in_ok-push.ensures.items
