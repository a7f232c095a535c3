use Rattle.jr_flow.proofs.Extending.{extends_none}
use Rattle.jr_flow.proofs.Closing.{goes_on, closed}
use Rattle.jr_flow.proofs.closure.close.Goals as goal

pub loop-width-init : goal.loop-width-init
loop-width-init c = extends_none c.args.width c.args.steps.now c.args.rows.now

pub loop-width-preserved : goal.loop-width-preserved
loop-width-preserved c =
    goes_on c.args.width c.args.steps.now c.args.rows.now c.loop-width.rows c.pass-changed.new.rows c.loop-width.invariant c.pass-changed.ensures.extends

pub loop-width-smaller : goal.loop-width-smaller
loop-width-smaller c = c.pass-changed.ensures.moves.less c.if-not-changed.false

pub returns-then-not-changed : goal.returns-then-not-changed
returns-then-not-changed c =
    closed c.args.width c.args.steps.now c.args.rows.now c.loop-width.rows c.pass-changed.new.rows c.loop-width.invariant c.pass-changed.ensures.extends
    (c.pass-changed.ensures.moves.same c.if-not-changed.true)
