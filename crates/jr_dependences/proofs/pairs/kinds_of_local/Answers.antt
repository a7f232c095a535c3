use Rattle.jr_dependences.specs.Numbers.{SameNumber}
use Rattle.jr_dependences.proofs.Sorting.{both, of_local}
use Rattle.jr_dependences.proofs.pairs.kinds_of_local.Goals as goal

pub returns : goal.returns
returns c = of_local SameNumber SameNumber c.args.before.now c.args.behind.now c.args.flow.now c.args.second c.requires _ _ _ (both _ _ c.gives.ensures c.related.ensures) c.related-2.ensures c.related-3.ensures
