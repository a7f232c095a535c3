use Rattle.jr_cover_cases.proofs.SiteCases as cases
use Rattle.jr_cover_cases.proofs.laws.site_cases.Goals as goal

pub returns : goal.returns
returns c = cases.site_cases
