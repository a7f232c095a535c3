use Rattle.jr_cover_cases.proofs.EdgeCases as cases
use Rattle.jr_cover_cases.proofs.laws.edge_cases.Goals as goal

pub returns : goal.returns
returns c = cases.edge_cases
