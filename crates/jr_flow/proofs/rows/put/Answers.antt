use Rattle.jr_flow.proofs.Words.{puts}
use Rattle.jr_flow.proofs.rows.put.Goals as goal

pub returns : goal.returns
returns c = puts c.args.words.now c.args.width c.args.row c.args.column c.requires.row c.requires.column
