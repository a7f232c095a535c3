use Rattle.std.proofs.Common.{◌≡◌, ◌∙◌, ◌+◌, ◌-◌, ℕ, drop, map, ap, sym, add-one}
use Rattle.jr_ast.specs.View.{param_of}
use Rattle.jr_local_search.specs.Scopes.{first_param as pure}
use Rattle.jr_local_search.proofs.FirstNamed.{some_left, one_less, no_types, param_met, param_passed, params_end}
use Rattle.jr_local_search.proofs.taken.first_param.Goals as goal

pub returns-then-left-eq0 : goal.returns-then-left-eq0
returns-then-left-eq0 c =
    let l = c.loop-param in
    let xs = c.args.params.now in
    sym (l.invariant ∙ ap (λ (t : ℕ). pure c.args.name.now l.number t (map param_of (drop l.param-index xs))) c.if-left-eq0.true
    ∙ no_types c.args.name.now xs l.param-index l.number c.param-item.result c.loop-param-test.true c.param-item.is)

pub returns-then-has_name : goal.returns-then-has_name
returns-then-has_name c =
    let l = c.loop-param in
    sym (l.invariant ∙ param_met c.args.name.now c.args.params.now l.param-index l.number c.param-item.result l.left c.loop-param-test.true c.param-item.is (some_left l.left c.if-left-eq0.false) (sym c.has_name.ensures ∙ c.if-has_name.true))

pub loop-param-preserved : goal.loop-param-preserved
loop-param-preserved c =
    let l = c.loop-param in
    let xs = c.args.params.now in
    l.invariant ∙ param_passed c.args.name.now xs l.param-index l.number c.param-item.result l.left (l.left - 1) c.loop-param-test.true c.param-item.is (one_less l.left c.if-left-eq0.false) (sym c.has_name.ensures ∙ c.if-has_name.false)
    ∙ ap (λ (n : ℕ). pure c.args.name.now n (l.left - 1) (map param_of (drop (l.param-index + 1) xs))) (sym (c.in_ok-number.ensures ∙ add-one l.number))

pub returns : goal.returns
returns c =
    let l = c.loop-param in
    sym (l.invariant ∙ params_end c.args.name.now c.args.params.now l.param-index l.number l.left c.loop-param-test.false)
