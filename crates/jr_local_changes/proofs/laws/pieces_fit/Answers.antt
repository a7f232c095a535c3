use Rattle.jr_local_changes.proofs.Pieces as pieces
use Rattle.jr_local_changes.proofs.laws.pieces_fit.Goals as goal

pub returns : goal.returns
returns c = pieces.pieces_fit c.members_are_written.ensures c.rows_are_named.ensures.rows
