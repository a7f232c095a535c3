use Rattle.std.proofs.Common.{◌≡◌, drop, map}
use Rattle.jr_local_search.specs.NamingView.{naming_of, all_read_at as pure}
use Rattle.jr_local_search.proofs.names.all_read_at.Given as goal

abbrev pub invariant-loop-naming : goal.invariant-loop-naming
invariant-loop-naming l = pure l.at (map naming_of l.namings) ≡ pure l.at (map naming_of (drop l.naming-index l.namings))
