use Rattle.std.proofs.Common.{◌≡◌, map, length}
use Rattle.std.specs.Prelude.{option_map}
use Rattle.jr_table.specs.KeyView.{local_key_of}
use Rattle.jr_table.specs.Scope.{or_later, last_named}
use Rattle.jr_lookup.specs.LocalView.{local_of}
use Rattle.jr_lookup.proofs.locals.last_local.Given as goal

abbrev pub invariant-loop-last : goal.invariant-loop-last
invariant-loop-last l = or_later (last_named l.name (map local_of l.rest)) (option_map (λ k. local_key_of k.now) l.last) ≡ last_named l.name (map local_of l.locals)

abbrev pub decreases-loop-last : goal.decreases-loop-last
decreases-loop-last l = length l.rest
