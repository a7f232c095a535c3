use Rattle.std.proofs.Common.{drop, map}
use Rattle.jr_ast.specs.View.{param_of}
use Rattle.jr_table.specs.TypeView.{ty_of}
use Rattle.jr_scopes.specs.Tracked.{Tracked, locals_of}
use Rattle.jr_bind_parts.specs.Parameters.{held_parameters}
use Rattle.jr_bind_parts.proofs.ParamSteps.{Goes}
use Rattle.jr_bind_parts.proofs.parameters.parameters.Given as goal

abbrev pub invariant-loop-param : goal.invariant-loop-param
invariant-loop-param g l =
    Tracked l.locals × Goes l.table (held_parameters l.table 0 (map param_of l.params) (map ty_of l.types)) (locals_of l.locals) l.number (map param_of (drop l.param-index l.params)) (map ty_of l.rest)
