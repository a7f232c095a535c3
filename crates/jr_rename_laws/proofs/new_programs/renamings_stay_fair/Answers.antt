use Rattle.jr_rename_laws.proofs.RenamingFair.{renamings_fair}
use Rattle.jr_rename_laws.proofs.new_programs.renamings_stay_fair.Goals as goal

pub returns : goal.returns
returns A c = renamings_fair
