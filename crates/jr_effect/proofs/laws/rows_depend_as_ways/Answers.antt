use Rattle.jr_cover.specs.Ways.{sites_of, Edge}
use Rattle.jr_effect.proofs.Covered.{depends_tied}
use Rattle.jr_effect.proofs.laws.rows_depend_as_ways.Goals as goal

pub returns : goal.returns
returns g c R key local one_key one_local w edges same kind i j = depends_tied R key local one_key one_local (sites_of w) (Edge 0 w) edges same kind i j
