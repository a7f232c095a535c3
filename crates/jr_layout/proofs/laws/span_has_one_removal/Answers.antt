use Rattle.jr_layout.proofs.Answering.{one_removal}
use Rattle.jr_layout.proofs.laws.span_has_one_removal.Goals as goal

pub returns : goal.returns
returns c = one_removal
