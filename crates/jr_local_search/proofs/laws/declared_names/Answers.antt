use Rattle.jr_local_search.proofs.Declaring as declaring
use Rattle.jr_local_search.proofs.laws.declared_names.Goals as goal

pub returns : goal.returns
returns c = declaring.declared_names
