use Rattle.jr_runs.proofs.Exchanging as exchanging
use Rattle.jr_runs.proofs.laws.reorderings_join.Goals as goal

pub returns : goal.returns
returns g c = record { joins = exchanging.reorderings_join; pieces = exchanging.pieces_change_places }
