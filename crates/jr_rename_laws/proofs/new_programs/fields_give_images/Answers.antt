use Rattle.jr_rename_laws.proofs.FieldImages.{field_images}
use Rattle.jr_rename_laws.proofs.new_programs.fields_give_images.Goals as goal

pub returns : goal.returns
returns A B c = field_images c
