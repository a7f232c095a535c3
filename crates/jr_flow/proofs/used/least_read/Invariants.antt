use Rattle.std.proofs.Common.{take}
use Rattle.jr_flow.specs.Least.{IsLeast}
use Rattle.jr_flow.specs.Nodes.{IsReached}
use Rattle.jr_flow.proofs.used.least_read.Given as goal

abbrev pub invariant-loop-read : goal.invariant-loop-read
invariant-loop-read l = IsLeast (IsReached l.reached) (take l.read-index l.reads) l.least
