use Rattle.std.proofs.Common.{◌≡◌, length, take}
use Rattle.jr_scopes.specs.Tracked.{Tracked, locals_of}
use Rattle.jr_scopes.proofs.locals.Locals.truncate.Given as goal

abbrev pub invariant-loop-self : goal.invariant-loop-self
invariant-loop-self l = Tracked l.self × (take l.depth (locals_of l.self) ≡ take l.depth (locals_of l.fn.self))

abbrev pub decreases-loop-self : goal.decreases-loop-self
decreases-loop-self l = length (locals_of l.self)
