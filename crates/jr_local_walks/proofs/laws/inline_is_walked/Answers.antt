use Rattle.jr_local_walks.proofs.Inlining as inlining
use Rattle.jr_local_walks.proofs.laws.inline_is_walked.Goals as goal

pub returns : goal.returns
returns c = inlining.inline_is_walked
