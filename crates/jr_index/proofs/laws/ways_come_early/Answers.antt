use Rattle.jr_index.proofs.Early.{early}
use Rattle.jr_index.proofs.laws.ways_come_early.Goals as goal

pub returns : goal.returns
returns c = λ parents n within. early parents n within
