use Rattle.jr_rename_laws.proofs.LocalImages.{local_images}
use Rattle.jr_rename_laws.proofs.new_programs.locals_give_images.Goals as goal

pub returns : goal.returns
returns A B c = local_images c
