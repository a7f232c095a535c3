use Rattle.std.proofs.Common.{◌≡◌, ◌++◌, drop, map}
use Rattle.jr_index.specs.Cycles.{is_even}
use Rattle.jr_index.proofs.cycles.evens.Given as goal

-- what is known so far, with what is left, is all
abbrev pub invariant-loop-mark : goal.invariant-loop-mark
invariant-loop-mark l = l.on.items ++ map is_even (drop l.mark-index l.marks) ≡ map is_even l.marks
