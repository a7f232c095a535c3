use Rattle.jr_layout.proofs.Answering.{one_line_end}
use Rattle.jr_layout.proofs.laws.text_has_one_line_end.Goals as goal

pub returns : goal.returns
returns c = one_line_end
