use Rattle.std.proofs.Common.{◌≡◌, length}
use Rattle.jr_table.specs.Looking.{same_kinds}
use Rattle.jr_table.proofs.wanted.same_kinds.Given as goal

abbrev pub invariant-loop-first : goal.invariant-loop-first
invariant-loop-first l = same_kinds l.left l.right ≡ same_kinds l.fn.left l.fn.right

abbrev pub decreases-loop-first : goal.decreases-loop-first
decreases-loop-first l = length l.left
