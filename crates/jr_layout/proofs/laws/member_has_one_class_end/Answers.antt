use Rattle.jr_layout.proofs.Answering.{one_class_end}
use Rattle.jr_layout.proofs.laws.member_has_one_class_end.Goals as goal

pub returns : goal.returns
returns c = one_class_end
