use Rattle.std.proofs.Common.{◌*◌, arith}
use Rattle.std.proofs.lemmas.Nat.{row_fits}
use Rattle.jr_flow.proofs.Finding.{starts_past, starts_merges}
use Rattle.jr_flow.proofs.search.start.Goals as goal

pub returns-then-from-width : goal.returns-then-from-width
returns-then-from-width c = starts_past c.args.width c.args.from c.args.rows.now c.if-from-width.true

pub merge-requires-clause-from : goal.merge-requires-clause-from
merge-requires-clause-from c =
    omega (arith, row_fits c.args.from c.args.width (64 * c.args.width) c.args.width (omega arith) (omega arith))

pub returns : goal.returns
returns c = starts_merges c.args.width c.args.from c.args.rows.now c.merge.new.words c.merge.ensures.merges
