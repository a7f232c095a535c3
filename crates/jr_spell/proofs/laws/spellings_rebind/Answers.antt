use Rattle.jr_spell.proofs.Rebinding.{rebinds, through_rebinds, class_rebinds, fronts_rebind}
use Rattle.jr_spell.proofs.laws.spellings_rebind.Goals as goal

pub returns-clause-bound : goal.returns-clause-bound
returns-clause-bound g c begins rows are context r d f e args x binds shape fits =
    rebinds begins rows context (c.lookups_are_exact.ensures.one rows are)
    (c.types_are_exact.ensures.bound rows are (c.lookups_are_exact.ensures.keys rows are) context) r d e args fits f x binds shape

pub returns-clause-through : goal.returns-clause-through
returns-clause-through g c begins rows are context r d k e args x binds of_k named types member =
    through_rebinds begins rows context (c.lookups_are_exact.ensures.one rows are)
    (c.types_are_exact.ensures.bound rows are (c.lookups_are_exact.ensures.keys rows are) context) r d k e args x binds of_k named types member

pub returns-clause-classes : goal.returns-clause-classes
returns-clause-classes g c rows context r d f u binds shape = class_rebinds rows context r d f u binds shape

pub returns-clause-fronts : goal.returns-clause-fronts
returns-clause-fronts g c rows context = fronts_rebind rows context
