use Rattle.jr_layout.proofs.Answering.{one_gap}
use Rattle.jr_layout.proofs.laws.place_has_one_gap.Goals as goal

pub returns : goal.returns
returns c = one_gap
