use Rattle.jr_expr_types.proofs.Leading.{lead}
use Rattle.jr_expr_types.proofs.laws.paths_lead_to_types.Goals as goal

pub returns : goal.returns
returns c = lead
