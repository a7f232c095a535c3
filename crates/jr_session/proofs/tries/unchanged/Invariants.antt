use Rattle.std.proofs.Common.{◌≡◌, length}
use Rattle.jr_session.specs.Trying.{AreUnchanged}
use Rattle.jr_session.proofs.tries.unchanged.Given as goal

abbrev pub invariant-loop-file : goal.invariant-loop-file
invariant-loop-file l = (length l.stays.items ≡ l.file) × AreUnchanged l.changes l.stays.items
