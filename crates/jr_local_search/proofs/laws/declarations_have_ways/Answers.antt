use Rattle.jr_local_search.proofs.Declaring as declaring
use Rattle.jr_local_search.proofs.laws.declarations_have_ways.Goals as goal

pub returns : goal.returns
returns c = declaring.declarations_have_ways
