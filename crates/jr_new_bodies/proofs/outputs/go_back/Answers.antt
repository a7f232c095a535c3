use Rattle.jr_new_bodies.proofs.Returning.{gone_back}
use Rattle.jr_new_bodies.proofs.outputs.go_back.Goals as goal

pub returns : goal.returns
returns c = λ first inside start is. gone_back c.args.to c.args.out.now _ _ c.truncate.ensures.items c.truncate-2.ensures.items first inside start is
