use Rattle.jr_local_texts.proofs.Used as used
use Rattle.jr_local_texts.proofs.laws.extracts_use.Goals as goal

pub returns : goal.returns
returns c = used.extracts_use
