use Rattle.std.proofs.Common.{◌∙◌, sym, ap}
use Rattle.jr_punit.specs.ClassView.{class_state, closed_at}
use Rattle.jr_punit.proofs.ClassSteps.{unclosed}
use Rattle.jr_punit.proofs.class_state.ClassState.close.Goals as goal

pub returns-in-Start : goal.returns-in-Start
returns-in-Start c = ap (λ s. closed_at (class_state s) c.args.at) (sym c.in-Start.ensures.value) ∙ unclosed c.in-Start.start c.args.at
