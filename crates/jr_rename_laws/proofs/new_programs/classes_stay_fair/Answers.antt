use Rattle.jr_rename_laws.proofs.ClassFair.{classes_fair}
use Rattle.jr_rename_laws.proofs.new_programs.classes_stay_fair.Goals as goal

pub returns : goal.returns
returns A c = classes_fair
