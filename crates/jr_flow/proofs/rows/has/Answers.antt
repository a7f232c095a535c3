use Rattle.jr_flow.proofs.Words.{has_tests}
use Rattle.jr_flow.proofs.rows.has.Goals as goal

pub returns : goal.returns
returns c = has_tests c.args.words.now c.args.width c.args.row c.args.column
