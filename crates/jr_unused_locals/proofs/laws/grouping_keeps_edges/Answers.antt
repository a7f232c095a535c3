use Rattle.jr_unused_locals.proofs.Regrouped as regrouped
use Rattle.jr_unused_locals.proofs.laws.grouping_keeps_edges.Goals as goal

pub returns : goal.returns
returns g c = regrouped.grouping_keeps_edges
