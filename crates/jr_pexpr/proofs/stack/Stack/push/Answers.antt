use Rattle.jr_pexpr.proofs.Stacks.{pushed}
use Rattle.jr_pexpr.proofs.stack.Stack.push.Goals as goal

pub returns-then-waits : goal.returns-then-waits
returns-then-waits c = pushed c.args.self.now.frames.items _ c.args.frame c.in_ok-push.ensures.items

pub returns-else-waits : goal.returns-else-waits
returns-else-waits c = pushed c.args.self.now.frames.items _ c.args.frame c.in_ok-push.ensures.items
