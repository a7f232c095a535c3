use Rattle.jr_runs.proofs.OldKeys as keys
use Rattle.jr_runs.proofs.laws.images_go_by_names.Goals as goal

pub returns : goal.returns
returns g c = keys.same_images
