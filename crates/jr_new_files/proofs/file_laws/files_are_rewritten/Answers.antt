use Rattle.jr_new_files.proofs.FilesRewritten.{are_rewritten}
use Rattle.jr_new_files.proofs.file_laws.files_are_rewritten.Goals as goal

pub returns : goal.returns
returns g c = λ tells rows super_at units naming es program gathered. are_rewritten tells rows super_at units naming es program gathered
