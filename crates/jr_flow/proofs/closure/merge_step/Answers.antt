use Rattle.std.proofs.Common.{◌*◌, arith}
use Rattle.std.proofs.lemmas.Bool.{iff_false}
use Rattle.std.proofs.lemmas.Nat.{row_fits}
use Rattle.jr_flow.proofs.Words.{moves_none}
use Rattle.jr_flow.proofs.Extending.{extends_merges, extends_past}
use Rattle.jr_flow.proofs.closure.merge_step.Goals as goal

pub has-requires : goal.has-requires
has-requires c =
    omega (arith, row_fits c.args.node c.args.width (64 * c.args.width) c.args.width (omega arith) (omega arith))

pub returns-then-not-has-clause-extends : goal.returns-then-not-has-clause-extends
returns-then-not-has-clause-extends c = extends_past c.args.width c.args.steps.now c.args.node c.args.next c.args.rows.now (iff_false c.has.ensures c.if-not-has.true)

pub returns-then-not-has-clause-moves : goal.returns-then-not-has-clause-moves
returns-then-not-has-clause-moves c = moves_none c.args.rows.now

pub merge-requires-clause-from : goal.merge-requires-clause-from
merge-requires-clause-from c =
    omega (arith, row_fits c.args.next c.args.width (64 * c.args.width) c.args.width (omega arith) (omega arith))

pub merge-requires-clause-to : goal.merge-requires-clause-to
merge-requires-clause-to c =
    omega (arith, row_fits c.args.node c.args.width (64 * c.args.width) c.args.width (omega arith) (omega arith))

pub returns-clause-extends : goal.returns-clause-extends
returns-clause-extends c =
    extends_merges c.args.width c.args.steps.now c.args.node c.args.next c.args.rows.now c.merge.new.words c.requires.next (c.has.ensures.0 c.if-not-has.false) c.merge.ensures.merges

pub returns-clause-moves : goal.returns-clause-moves
returns-clause-moves c = c.merge.ensures.moves
