use Rattle.std.proofs.Common.{arith}
use Rattle.jr_layout.specs.Lines.{IsSpaceOrTab}
use Rattle.jr_layout.proofs.Runs.{run_more}
use Rattle.jr_layout.proofs.lines.run_end.Goals as goal

pub loop-end-preserved : goal.loop-end-preserved
loop-end-preserved c = (omega arith, omega arith, run_more (IsSpaceOrTab c.args.bytes.now) c.args.at c.loop-end.end c.loop-end.invariant.2 (c.is_space_or_tab.ensures.0 c.if-is_space_or_tab.true))
