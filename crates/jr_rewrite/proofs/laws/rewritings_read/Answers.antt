use Rattle.jr_rewrite.proofs.Rewriting.{rewritings_read}
use Rattle.jr_rewrite.proofs.laws.rewritings_read.Goals as goal

pub returns : goal.returns
returns g c = rewritings_read _
