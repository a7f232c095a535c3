use Rattle.jr_local_ways.proofs.Elements.{elements_hold_it}
use Rattle.jr_local_ways.proofs.laws.elements_hold_it.Goals as goal

pub returns : goal.returns
returns g c = elements_hold_it
