use Rattle.jr_cover.proofs.Cover as laws
use Rattle.jr_cover.proofs.laws.actions_follow_edges.Goals as goal

pub returns : goal.returns
returns g c = laws.actions_follow_edges
