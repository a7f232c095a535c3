use Rattle.std.proofs.Common.{refl, ◌∙◌}
use Rattle.jr_sources.proofs.binds.bind_by.Goals as goal

pub returns-in-Ok-clause-back : goal.returns-in-Ok-clause-back
returns-in-Ok-clause-back g c = (_, refl, record { table = c.parts-parts.ensures.table; members = c.in-Ok.ensures.back ∙ c.parts-parts.ensures.members })
