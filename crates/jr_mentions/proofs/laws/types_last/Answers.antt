use Rattle.jr_mentions.proofs.TypesCarried.{types_last}
use Rattle.jr_mentions.proofs.laws.types_last.Goals as goal

pub returns : goal.returns
returns g c = record { types = types_last _ c.types_are_exact.ensures.bound c.lookups_are_exact.ensures.keys }
