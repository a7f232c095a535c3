use Rattle.jr_local_ways.proofs.Alone.{one_has_the_span}
use Rattle.jr_local_ways.proofs.laws.one_has_the_span.Goals as goal

pub returns : goal.returns
returns c = one_has_the_span c.one_way_has_a_span.ensures
