use Rattle.std.proofs.Common.{arith}
use Rattle.jr_layout.specs.Lines.{IsSpaceOrTab}
use Rattle.jr_layout.proofs.Runs.{run_more_front}
use Rattle.jr_layout.proofs.lines.run_start.Goals as goal

pub loop-start-preserved : goal.loop-start-preserved
loop-start-preserved c =
    (omega arith, run_more_front (IsSpaceOrTab c.args.bytes.now) c.loop-start.start c.args.at (omega arith) c.loop-start.invariant.1 (c.is_space_or_tab.ensures.0 c.if-is_space_or_tab.true))
