use Rattle.std.proofs.Common.{◌≡◌, ◌++◌, drop}
use Rattle.jr_program.specs.Tokens as pure
use Rattle.jr_program.proofs.tokens.super_places.Given as goal

abbrev pub invariant-loop-item : goal.invariant-loop-item
invariant-loop-item l = l.places.items ++ pure.super_places (drop l.item-index l.items) ≡ pure.super_places l.items
