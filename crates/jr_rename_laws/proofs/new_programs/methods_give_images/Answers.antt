use Rattle.jr_rename_laws.proofs.MethodImages.{method_images}
use Rattle.jr_rename_laws.proofs.new_programs.methods_give_images.Goals as goal

pub returns : goal.returns
returns A B c = method_images c
