use Rattle.std.proofs.Common.{◌≡◌, None, drop, map}
use Rattle.jr_rename.specs.Walks.{asked_of, held_of, named_in}
use Rattle.jr_rename.proofs.walks.named_in.Given as goal

-- the least from here on is the least of all
abbrev pub invariant-loop-held : goal.invariant-loop-held
invariant-loop-held l = named_in (asked_of l.asked) l.least (map held_of (drop l.held-index l.scope)) ≡ named_in (asked_of l.asked) None (map held_of l.scope)
