use Rattle.std.proofs.Common.{take}
use Rattle.jr_scopes.specs.Tracked.{Finds}
use Rattle.jr_scopes.proofs.indexing.PlaceIndex.of_known.Given as goal

abbrev pub invariant-loop-place : goal.invariant-loop-place
invariant-loop-place l = Finds l.index (take l.place l.known)
