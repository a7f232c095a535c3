use Rattle.jr_local_reads.proofs.Named.{locals_have_their_names}
use Rattle.jr_local_reads.proofs.laws.locals_have_their_names.Goals as goal

pub returns : goal.returns
returns c = locals_have_their_names
