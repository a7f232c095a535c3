use Rattle.jr_layout.proofs.Answering.{one_blank}
use Rattle.jr_layout.proofs.laws.span_has_one_blank.Goals as goal

pub returns : goal.returns
returns c = one_blank
