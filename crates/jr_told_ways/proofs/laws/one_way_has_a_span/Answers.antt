use Rattle.jr_told_ways.proofs.Decoding as decoding
use Rattle.jr_told_ways.proofs.laws.one_way_has_a_span.Goals as goal

pub returns : goal.returns
returns A c = decoding.one_way c.spans_tell_ways.ensures
