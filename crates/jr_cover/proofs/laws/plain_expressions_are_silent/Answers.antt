use Rattle.jr_cover.proofs.PlainSilent as laws
use Rattle.jr_cover.proofs.laws.plain_expressions_are_silent.Goals as goal

pub returns : goal.returns
returns g c = laws.plain_expressions_are_silent
