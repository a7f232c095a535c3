use Rattle.jr_rename.proofs.Changing.{pushed}
use Rattle.jr_rename.proofs.pairs.push_pair.Goals as goal

pub returns : goal.returns
returns c = pushed c.args.pairs.now.items c.push.new.self.items c.args.old c.args.new c.in_ok-push.ensures.items
