use Rattle.std.proofs.Common.{◌≡◌, ℕ, ◌+◌, ◌*◌, List, Some, arith}
use Rattle.jr_index.proofs.cycles.marks_of.Goals as goal

pub returns-clause-marked : goal.returns-clause-marked
returns-clause-marked c = (c.loop-start.start, c.loop-start-test.false, c.loop-start.invariant.marked)
