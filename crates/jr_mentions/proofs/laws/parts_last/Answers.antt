use Rattle.jr_mentions.proofs.PartsLasting.{parts_last}
use Rattle.jr_mentions.proofs.laws.parts_last.Goals as goal

pub returns : goal.returns
returns g c = record { parts = parts_last _ c.lookups_are_exact.ensures.keys c.parts_are_noted.ensures.parts }
