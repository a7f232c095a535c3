use Rattle.jr_pieces.proofs.Nests as nests
use Rattle.jr_pieces.proofs.laws.standing_lists_are_nested.Goals as goal

pub returns : goal.returns
returns g c = nests.standing_lists_are_nested
