use Rattle.jr_runs.proofs.Renaming as renaming
use Rattle.jr_runs.proofs.laws.renamed_programs_are_alike.Goals as goal

pub returns : goal.returns
returns g c = renaming.renamed_programs_are_alike
