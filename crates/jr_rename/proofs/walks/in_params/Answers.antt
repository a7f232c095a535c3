use Rattle.std.proofs.Common.{◌+◌, ap, sym, drop, map, ◌∙◌}
use Rattle.jr_ast.specs.View.{param_of}
use Rattle.jr_rename.specs.Walks.{asked_of, walk_of, in_params}
use Rattle.jr_rename.proofs.Loops.{params_go, params_end}
use Rattle.jr_rename.proofs.walks.in_params.Goals as goal

pub loop-param-preserved : goal.loop-param-preserved
loop-param-preserved g c =
    let a = asked_of c.args.asked.now in
    let ps = c.args.params.now in
    let i = c.loop-param.param-index in
    ap (λ w. in_params a c.args.is_param c.args.types w (map param_of (drop (i + 1) ps))) c.in_ok-declare_param.ensures
    ∙ sym (params_go a c.args.is_param c.args.types (walk_of c.loop-param.walk) ps i c.param-item.result c.loop-param-test.true c.param-item.is)
    ∙ c.loop-param.invariant

pub returns : goal.returns
returns g c = sym (params_end (asked_of c.args.asked.now) c.args.is_param c.args.types (walk_of c.loop-param.walk) c.args.params.now c.loop-param.param-index c.loop-param-test.false) ∙ c.loop-param.invariant
