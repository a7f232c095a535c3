use Rattle.std.proofs.Common.{◌≡◌, drop, map}
use Rattle.jr_local_search.specs.Namings.{first_target as pure}
use Rattle.jr_local_search.specs.NamingView.{naming_of}
use Rattle.jr_local_search.proofs.names.first_target.Given as goal

abbrev pub invariant-loop-naming : goal.invariant-loop-naming
invariant-loop-naming l = pure (map naming_of l.namings) ≡ pure (map naming_of (drop l.naming-index l.namings))
