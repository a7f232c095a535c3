use Rattle.std.proofs.Common.{arith}
use Rattle.jr_layout.specs.Layouts.{IsBlankByte}
use Rattle.jr_layout.proofs.Runs.{run_more}
use Rattle.jr_layout.proofs.removals.blank_end.Goals as goal

pub loop-end-preserved : goal.loop-end-preserved
loop-end-preserved c = (omega arith, omega arith, run_more (IsBlankByte c.args.bytes.now) c.args.at c.loop-end.end c.loop-end.invariant.2 (c.is_blank_byte.ensures.0 c.if-is_blank_byte.true))
