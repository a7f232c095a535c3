use Rattle.jr_pieces.proofs.Leads as leads
use Rattle.jr_pieces.proofs.laws.what_is_found_has_a_way.Goals as goal

pub returns : goal.returns
returns g c = leads.what_is_found_has_a_way
