use Rattle.std.proofs.Common.{None}
use Rattle.jr_pexpr.proofs.Stacks.{pushed, popped}
use Rattle.jr_pexpr.proofs.stack.Stack.pop.Goals as goal

pub returns-then-ends_when : goal.returns-then-ends_when
returns-then-ends_when c = pushed c.pop.new.self.items c.args.self.now.frames.items c.in-Some.frame c.in-Some.ensures.items

pub returns-else-ends_when : goal.returns-else-ends_when
returns-else-ends_when c = pushed c.pop.new.self.items c.args.self.now.frames.items c.in-Some.frame c.in-Some.ensures.items

pub returns-in-None : goal.returns-in-None
returns-in-None c = popped c.args.self.now.frames.items c.pop.new.self.items None _ _ c.in-None.ensures.items c.args.self.now.frames.ok.0 c.in-None.ensures.cases c.pop.new.self.ok.0
