use Rattle.jr_runs.proofs.TypedPrograms as programs
use Rattle.jr_runs.proofs.laws.typed_images_are_alike.Goals as goal

pub returns : goal.returns
returns g c = programs.typed_images_are_alike
