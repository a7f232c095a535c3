use Rattle.jr_told_ways.proofs.Decoding as decoding
use Rattle.jr_told_ways.proofs.laws.paths_tell_ways.Goals as goal

pub returns : goal.returns
returns A c = decoding.paths_tell
