use Rattle.std.proofs.Common.{◌*◌, arith}
use Rattle.std.proofs.lemmas.Bool.{iff_false}
use Rattle.std.proofs.lemmas.Nat.{row_fits}
use Rattle.jr_flow.proofs.Filled.{edges_more, edges_shut}
use Rattle.jr_flow.proofs.filling.put_edge.Goals as goal

pub returns-then-has : goal.returns-then-has
returns-then-has c edges h =
    edges_shut c.args.width c.args.stops.now edges c.args.from c.args.to c.args.rows.now h (c.has.ensures.0 c.if-has.true)

pub put-requires-clause-row : goal.put-requires-clause-row
put-requires-clause-row c =
    omega (arith, row_fits c.args.from c.args.width (64 * c.args.width) c.args.width (omega arith) (omega arith))

pub returns : goal.returns
returns c edges h =
    edges_more c.args.width c.args.stops.now edges c.args.from c.args.to c.args.rows.now h c.put.new.words (iff_false c.has.ensures c.if-has.false) c.put.ensures
