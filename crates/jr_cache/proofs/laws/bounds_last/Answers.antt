use Rattle.jr_cache.proofs.BoundsLast as lemma
use Rattle.jr_cache.proofs.laws.bounds_last.Goals as goal

pub returns : goal.returns
returns g c = record { bounds = lemma.bounds_last c.apart_look_alike.ensures.alike c.parts_last.ensures.parts c.types_last.ensures.types }
