use Rattle.std.proofs.Common.{◌+◌, List, ◌∷◌, drop, map, ap, subst}
use Rattle.std.proofs.lemmas.List.{drop_all}
use Rattle.jr_ast.specs.declared.parts.Param.{Param}
use Rattle.jr_ast.specs.View.{param_of}
use Rattle.jr_table.specs.declared.types.Ty as raw_ty
use Rattle.jr_table.specs.TypeView.{ty_of}
use Rattle.jr_scopes.specs.Tracked.{locals_of}
use Rattle.jr_bind_parts.specs.Parameters.{held_parameters}
use Rattle.jr_bind_expr.proofs.Steps.{left_is}
use Rattle.jr_bind_parts.proofs.ParamSteps.{none_left, Goes, goes_typeless, goes_end}
use Rattle.jr_bind_parts.proofs.parameters.parameters.Goals as goal

pub returns-in_default-clause-held : goal.returns-in_default-clause-held
returns-in_default-clause-held g c =
    let rows = c.args.table.now in
    let params = c.args.params.now in
    let whole = held_parameters rows 0 (map param_of params) (map ty_of c.args.types.now) in
    let i = c.loop-param.param-index in
    let x = c.param-item.result in
    let held = locals_of c.loop-param.locals in
    let number = c.loop-param.number in
    goes_typeless rows whole held number (param_of x) (map param_of (drop (i + 1) params))
    (subst (λ (ts : List raw_ty.Ty). Goes rows whole held number (param_of x ∷ map param_of (drop (i + 1) params)) (map ty_of ts)) (none_left c.loop-param.rest.now c.in_default.ensures.cases)
    (subst (λ (ps : List (Param g.row.A.Denot)). Goes rows whole held number (map param_of ps) (map ty_of c.loop-param.rest.now)) (left_is params i x c.loop-param-test.true c.param-item.is) c.loop-param.invariant.1))

pub returns-clause-held : goal.returns-clause-held
returns-clause-held g c =
    let rows = c.args.table.now in
    let params = c.args.params.now in
    let whole = held_parameters rows 0 (map param_of params) (map ty_of c.args.types.now) in
    let i = c.loop-param.param-index in
    goes_end rows whole (locals_of c.loop-param.locals) c.loop-param.number (map param_of (drop i params)) (map ty_of c.loop-param.rest.now) (ap (map param_of) (drop_all i params c.loop-param-test.false)) c.loop-param.invariant.1
