use Rattle.jr_cover_cases.proofs.DependenceCases as cases
use Rattle.jr_cover_cases.proofs.laws.dependence_cases.Goals as goal

pub returns : goal.returns
returns c = record { two_loads = cases.two_loads_depend; endless_loop = cases.endless_depends }
