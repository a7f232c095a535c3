use Rattle.jr_pexpr.proofs.Marks as Marks
use Rattle.jr_pexpr.proofs.laws.marked_steps_alike.Goals as goal

pub returns : goal.returns
returns c = Marks.steps_alike
