use Rattle.std.proofs.Common.{◌+◌, List, ◌∷◌, drop, map, refl, sym, ap, subst, ◌∙◌}
use Rattle.std.proofs.lemmas.List.{drop_all}
use Rattle.jr_text.specs.declared.spans.Span.{Span}
use Rattle.jr_ast.specs.declared.parts.Param.{Param}
use Rattle.jr_ast.specs.View.{param_of}
use Rattle.jr_table.specs.declared.types.Ty as raw_ty
use Rattle.jr_table.specs.TypeView.{ty_of}
use Rattle.jr_scopes.specs.Helds.{held_of}
use Rattle.jr_new_words.specs.Scopes.{locals_in}
use Rattle.jr_bind_expr.proofs.Steps.{left_is}
use Rattle.jr_bind_parts.proofs.ParamSteps.{none_left}
use Rattle.jr_new_files.specs.Walking.{held_params}
use Rattle.jr_new_files.proofs.Placing.{Goes, goes_begin, goes_on, goes_typeless, goes_end, stays_beside, then_beside}
use Rattle.jr_new_files.proofs.beginnings.push_params.Goals as goal

pub loop-param-init : goal.loop-param-init
loop-param-init c =
    record { kept = c.requires.kept; beside = stays_beside c.args.scopes.now; own = refl; locals = goes_begin (held_params 0 (map param_of c.args.params.now) (map ty_of c.args.types.now)) (locals_in c.args.scopes.now) c.requires.none }

pub loop-param-preserved : goal.loop-param-preserved
loop-param-preserved c =
    let l = c.loop-param in
    let params = c.args.params.now in
    let whole = held_params 0 (map param_of params) (map ty_of c.args.types.now) in
    let i = l.param-index in
    let x = c.param-item.result in
    let held = locals_in l.scopes in
    let ps = map param_of (drop (i + 1) params) in
    let put = c.in_ok-push.ensures in
    record {
      kept = put.kept;
      beside = then_beside c.args.scopes.now l.scopes c.push.new.self l.invariant.beside put.beside;
      own = put.own ∙ l.invariant.own;
      locals = goes_on whole held (locals_in c.push.new.self) (held_of c.parameter.result) l.number c.in_ok-number.number (param_of x) ps (ty_of c.in-Some.ty.now) (map ty_of c.in-Some.others.now) put.locals c.parameter.ensures c.in_ok-number.ensures
          (subst (λ (ts : List raw_ty.Ty). Goes whole held l.number (param_of x ∷ ps) (map ty_of ts)) c.in-Some.ensures.cases.0
          (subst (λ (qs : List (Param Span)). Goes whole held l.number (map param_of qs) (map ty_of l.rest.now)) (left_is params i x c.loop-param-test.true c.param-item.is) l.invariant.locals));
    }

pub returns-in_default-clause-locals : goal.returns-in_default-clause-locals
returns-in_default-clause-locals c =
    let params = c.args.params.now in
    let whole = held_params 0 (map param_of params) (map ty_of c.args.types.now) in
    let i = c.loop-param.param-index in
    let x = c.param-item.result in
    let held = locals_in c.loop-param.scopes in
    let number = c.loop-param.number in
    goes_typeless whole held number (param_of x) (map param_of (drop (i + 1) params))
    (subst (λ (ts : List raw_ty.Ty). Goes whole held number (param_of x ∷ map param_of (drop (i + 1) params)) (map ty_of ts)) (none_left c.loop-param.rest.now c.in_default.ensures.cases)
    (subst (λ (ps : List (Param Span)). Goes whole held number (map param_of ps) (map ty_of c.loop-param.rest.now)) (left_is params i x c.loop-param-test.true c.param-item.is) c.loop-param.invariant.locals))

pub returns-clause-locals : goal.returns-clause-locals
returns-clause-locals c =
    let params = c.args.params.now in
    let whole = held_params 0 (map param_of params) (map ty_of c.args.types.now) in
    let i = c.loop-param.param-index in
    goes_end whole (locals_in c.loop-param.scopes) c.loop-param.number (map param_of (drop i params)) (map ty_of c.loop-param.rest.now) (ap (map param_of) (drop_all i params c.loop-param-test.false)) c.loop-param.invariant.locals
