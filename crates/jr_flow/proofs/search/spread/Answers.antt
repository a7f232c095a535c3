use Rattle.jr_flow.proofs.Outward.{spreads_none, search_goes_on, searched}
use Rattle.jr_flow.proofs.search.spread.Goals as goal

pub loop-width-init : goal.loop-width-init
loop-width-init c = spreads_none c.args.width c.args.stops.now c.args.rows.now

pub loop-width-preserved : goal.loop-width-preserved
loop-width-preserved c =
    search_goes_on c.args.width c.args.stops.now c.args.rows.now c.loop-width.rows c.spread_pass-changed.new.rows c.loop-width.invariant c.spread_pass-changed.ensures.spreads

pub loop-width-smaller : goal.loop-width-smaller
loop-width-smaller c = c.spread_pass-changed.ensures.moves.less c.if-not-changed.false

pub returns-then-not-changed : goal.returns-then-not-changed
returns-then-not-changed c =
    searched c.args.width c.args.stops.now c.args.rows.now c.loop-width.rows c.spread_pass-changed.new.rows c.loop-width.invariant c.spread_pass-changed.ensures.spreads
    (c.spread_pass-changed.ensures.moves.same c.if-not-changed.true)
