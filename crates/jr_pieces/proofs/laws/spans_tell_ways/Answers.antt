use Rattle.jr_pieces.proofs.Finds as finds
use Rattle.jr_pieces.proofs.laws.spans_tell_ways.Goals as goal

pub returns : goal.returns
returns g c = finds.spans_tell_ways
