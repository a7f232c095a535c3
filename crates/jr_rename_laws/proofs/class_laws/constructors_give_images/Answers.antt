use Rattle.jr_rename_laws.proofs.Constructors.{ctor_images}
use Rattle.jr_rename_laws.proofs.class_laws.constructors_give_images.Goals as goal

pub returns : goal.returns
returns g c = ctor_images c.references_are_kept.ensures c.renamings_stay_fair.ensures
