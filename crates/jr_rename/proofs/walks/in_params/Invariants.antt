use Rattle.std.proofs.Common.{◌≡◌, drop, map}
use Rattle.jr_ast.specs.View.{param_of}
use Rattle.jr_rename.specs.Walks.{asked_of, walk_of, in_params}
use Rattle.jr_rename.proofs.walks.in_params.Given as goal

-- the walk from here on is the walk from the first parameter on
abbrev pub invariant-loop-param : goal.invariant-loop-param
invariant-loop-param g l = in_params (asked_of l.asked) l.is_param l.types (walk_of l.walk) (map param_of (drop l.param-index l.params)) ≡ in_params (asked_of l.asked) l.is_param l.types (walk_of l.fn.walk) (map param_of l.params)
