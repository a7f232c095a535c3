use Rattle.jr_unused_locals.proofs.Regrouped as regrouped
use Rattle.jr_unused_locals.proofs.laws.edges_are_in_or_round.Goals as goal

pub returns : goal.returns
returns g c = regrouped.edges_are_in_or_round
