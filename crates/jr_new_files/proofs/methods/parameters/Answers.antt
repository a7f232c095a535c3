use Rattle.std.proofs.Common.{ℕ, ◌+◌, List, ◌∷◌, drop, map, false, sym, subst}
use Rattle.jr_text.specs.declared.spans.Span.{Span}
use Rattle.jr_ast.specs.declared.parts.Param.{Param}
use Rattle.jr_ast.specs.View.{param_of}
use Rattle.jr_table.specs.HeadRules.{plain}
use Rattle.jr_bind_expr.proofs.Steps.{left_is}
use Rattle.jr_new_bodies.specs.OutputView.{gathered}
use Rattle.jr_new_files.specs.Walking.{key_of, rows_of, mapping_of}
use Rattle.jr_new_files.specs.Ready.{ParamsReady}
use Rattle.jr_new_files.proofs.Giving.{Left, param_goes, params_done}
use Rattle.jr_new_files.proofs.methods.parameters.Goals as goal

pub loop-param-init : goal.loop-param-init
loop-param-init c = record { ready = c.requires.ready; gives = λ new at x. x }

pub parameter-requires : goal.parameter-requires
parameter-requires c =
    let w = c.args.of.now in
    let params = c.args.params.now in
    let i = c.loop-param.param-index in
    record {
      walked = c.requires.walked;
      ready = (subst (λ (ps : List (Param Span)). ParamsReady (rows_of w) (plain (key_of w) false) (map param_of ps)) (left_is params i c.param-item.result c.loop-param-test.true c.param-item.is) c.loop-param.invariant.ready).0;
    }

pub loop-param-preserved : goal.loop-param-preserved
loop-param-preserved c =
    let w = c.args.of.now in
    let params = c.args.params.now in
    let i = c.loop-param.param-index in
    let x = c.param-item.result in
    let start = gathered c.args.out.now in
    let next = gathered c.parameter.new.out in
    record {
      ready = (subst (λ (ps : List (Param Span)). ParamsReady (rows_of w) (plain (key_of w) false) (map param_of ps)) (left_is params i x c.loop-param-test.true c.param-item.is) c.loop-param.invariant.ready).1;
      gives = subst (λ (n : ℕ). Left (rows_of w) (mapping_of w) (key_of w) params start next n (drop (i + 1) params)) (sym c.in_ok-number.ensures)
          (param_goes (rows_of w) (mapping_of w) (key_of w) params i c.loop-param.number x c.loop-param-test.true c.param-item.is start (gathered c.loop-param.out) next c.loop-param.invariant.gives c.in_ok-parameter.ensures);
    }

pub returns : goal.returns
returns c =
    let w = c.args.of.now in
    params_done (rows_of w) (mapping_of w) (key_of w) c.args.params.now c.loop-param.param-index c.loop-param.number c.loop-param-test.false (gathered c.args.out.now) (gathered c.loop-param.out) c.loop-param.invariant.gives
