use Rattle.jr_lines.proofs.OneOrder.{only_list}
use Rattle.jr_lines.proofs.laws.lines_are_told.Goals as goal

pub returns : goal.returns
returns c = only_list
