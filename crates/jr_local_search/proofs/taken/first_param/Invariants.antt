use Rattle.std.proofs.Common.{◌≡◌, drop, map}
use Rattle.jr_ast.specs.View.{param_of}
use Rattle.jr_local_search.specs.Scopes.{first_param as pure}
use Rattle.jr_local_search.proofs.taken.first_param.Given as goal

abbrev pub invariant-loop-param : goal.invariant-loop-param
invariant-loop-param l = pure l.name 0 l.types (map param_of l.params) ≡ pure l.name l.number l.left (map param_of (drop l.param-index l.params))
