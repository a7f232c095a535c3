use Rattle.std.proofs.Common.{None}
use Rattle.jr_pstmt.proofs.ListFrames.{pushed, popped}
use Rattle.jr_pstmt.proofs.places.Place.pop.Goals as goal

pub returns-then-is_list-clause-on : goal.returns-then-is_list-clause-on
returns-then-is_list-clause-on c = pushed c.pop.new.self.items c.args.self.now.frames.items c.in-Some.frame c.in-Some.ensures.items

pub returns-else-is_list-clause-on : goal.returns-else-is_list-clause-on
returns-else-is_list-clause-on c = pushed c.pop.new.self.items c.args.self.now.frames.items c.in-Some.frame c.in-Some.ensures.items

pub returns-in-None-clause-on : goal.returns-in-None-clause-on
returns-in-None-clause-on c = popped c.args.self.now.frames.items c.pop.new.self.items None _ _ c.in-None.ensures.items c.args.self.now.frames.ok.0 c.in-None.ensures.cases c.pop.new.self.ok.0
