use Rattle.jr_rewrite.proofs.Rewriting.{rewritings_are_one}
use Rattle.jr_rewrite.proofs.laws.rewritings_are_one.Goals as goal

pub returns : goal.returns
returns g c = rewritings_are_one _ _ c.one_answer.ensures.items
