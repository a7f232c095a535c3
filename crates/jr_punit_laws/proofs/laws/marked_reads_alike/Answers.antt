use Rattle.jr_punit_laws.proofs.ReadsAlike as ReadsAlike
use Rattle.jr_punit_laws.proofs.laws.marked_reads_alike.Goals as goal

pub returns : goal.returns
returns c = ReadsAlike.reads_alike
