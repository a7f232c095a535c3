use Rattle.std.proofs.Common.{◌*◌, arith}
use Rattle.std.proofs.lemmas.Bool.{iff_false}
use Rattle.std.proofs.lemmas.Nat.{row_fits}
use Rattle.jr_flow.proofs.Words.{moves_none}
use Rattle.jr_flow.proofs.Outward.{spreads_past, spreads_merges}
use Rattle.jr_flow.proofs.search.spread_step.Goals as goal

pub returns-then-has-clause-spreads : goal.returns-then-has-clause-spreads
returns-then-has-clause-spreads c =
    spreads_past c.args.width c.args.stops.now c.args.node c.args.rows.now (λ free has. free (c.has.ensures.0 c.if-has.true))

pub returns-then-has-clause-moves : goal.returns-then-has-clause-moves
returns-then-has-clause-moves c = moves_none c.args.rows.now

pub returns-then-not-has-clause-spreads : goal.returns-then-not-has-clause-spreads
returns-then-not-has-clause-spreads c =
    spreads_past c.args.width c.args.stops.now c.args.node c.args.rows.now (λ free has. iff_false c.has-2.ensures c.if-not-has.true has)

pub returns-then-not-has-clause-moves : goal.returns-then-not-has-clause-moves
returns-then-not-has-clause-moves c = moves_none c.args.rows.now

pub merge-requires-clause-from : goal.merge-requires-clause-from
merge-requires-clause-from c =
    omega (arith, row_fits c.args.node c.args.width (64 * c.args.width) c.args.width (omega arith) (omega arith))

pub returns-clause-spreads : goal.returns-clause-spreads
returns-clause-spreads c =
    spreads_merges c.args.width c.args.stops.now c.args.node c.args.rows.now c.merge.new.words c.requires.node (iff_false c.has.ensures c.if-has.false) (c.has-2.ensures.0 c.if-not-has.false)
    c.merge.ensures.merges

pub returns-clause-moves : goal.returns-clause-moves
returns-clause-moves c = c.merge.ensures.moves
