use Rattle.jr_local_search.proofs.Declaring as declaring
use Rattle.jr_local_search.proofs.laws.ways_are_declared.Goals as goal

pub returns : goal.returns
returns c = declaring.ways_are_declared
