use Rattle.jr_piece_search.proofs.Absent as absent
use Rattle.jr_piece_search.proofs.laws.none_has_the_span.Goals as goal

pub returns : goal.returns
returns c = absent.none_has_the_span c.spans_tell_ways.ensures
