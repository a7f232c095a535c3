use Rattle.jr_flow.proofs.Filled.{numbers_more, numbers_past}
use Rattle.jr_flow.proofs.filling.put_number.Goals as goal

pub returns-then-number-width : goal.returns-then-number-width
returns-then-number-width c numbers h = numbers_past c.args.width numbers c.args.number c.args.row.now c.if-number-width.true h

pub returns : goal.returns
returns c numbers h = numbers_more c.args.width numbers c.args.number c.args.row.now c.put.new.words c.put.ensures h
