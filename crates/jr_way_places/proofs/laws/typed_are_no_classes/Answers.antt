use Rattle.jr_way_places.proofs.Valued.{typed_are_no_classes}
use Rattle.jr_way_places.proofs.laws.typed_are_no_classes.Goals as goal

pub returns : goal.returns
returns g c = typed_are_no_classes c.lookups_are_exact.ensures.keys c.lookups_are_exact.ensures.one c.types_are_exact.ensures.bound
