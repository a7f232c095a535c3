use Rattle.std.proofs.Common.{◌∙◌}
use Rattle.jr_pexpr.proofs.Stacks.{nil_is}
use Rattle.jr_pexpr.proofs.stack.Stack.is_empty.Goals as goal

pub returns : goal.returns
returns c = c.is_empty.ensures ∙ nil_is c.args.self.now.frames.items c.args.self.now.frames.len c.args.self.now.frames.ok.0
