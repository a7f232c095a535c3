use Rattle.jr_paths_nodes.proofs.WithChildren as children
use Rattle.jr_paths_nodes.proofs.laws.one_child_is_replaced.Goals as goal

pub returns : goal.returns
returns g c = children.one_child_replaced
