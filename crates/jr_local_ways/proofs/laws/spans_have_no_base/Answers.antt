use Rattle.jr_local_ways.proofs.Unbased.{spans_have_no_base}
use Rattle.jr_local_ways.proofs.laws.spans_have_no_base.Goals as goal

pub returns : goal.returns
returns c = spans_have_no_base
