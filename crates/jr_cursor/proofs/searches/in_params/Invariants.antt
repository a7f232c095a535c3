use Rattle.std.proofs.Common.{◌≡◌, drop, map}
use Rattle.jr_ast.specs.View.{param_of}
use Rattle.jr_cursor.specs.Searches.{in_params}
use Rattle.jr_cursor.proofs.searches.in_params.Given as goal

-- what is found from here on is what is found from the first parameter on
abbrev pub invariant-loop-param : goal.invariant-loop-param
invariant-loop-param l = in_params l.at l.search (map param_of (drop l.param-index l.params)) ≡ in_params l.at l.fn.before (map param_of l.params)
