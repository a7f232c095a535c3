use Rattle.std.proofs.Common.{◌≡◌, length}
use Rattle.jr_index.specs.Cycles.{AreMarked}
use Rattle.jr_index.proofs.cycles.marks_of.Given as goal

abbrev pub invariant-loop-start : goal.invariant-loop-start
invariant-loop-start l = record {
  size : length l.marks.items ≡ length l.parents;
  marked : AreMarked l.parents l.start l.marks.items l.first;
}
