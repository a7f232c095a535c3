use Rattle.jr_local_moves.proofs.Referring as referring
use Rattle.jr_local_moves.proofs.laws.references_have_places.Goals as goal

pub returns : goal.returns
returns c = referring.references_have_places
