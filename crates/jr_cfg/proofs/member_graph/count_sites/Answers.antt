use Rattle.std.proofs.Common.{List, length, ap, refl, ◌∙◌, arith}
use Rattle.std.proofs.lemmas.List.{take_all}
use Rattle.jr_expr_sites.specs.declared.step.Step as raw_step
use Rattle.jr_expr_sites.specs.Steps.{sites_in}
use Rattle.jr_expr_sites.specs.StepView.{steps_in}
use Rattle.jr_cfg.proofs.StepLaws as step_law
use Rattle.jr_cfg.proofs.member_graph.count_sites.Goals as goal

pub loop-step-init : goal.loop-step-init
loop-step-init c = record { few = omega arith; counted = λ key. refl }

pub overflow_add-count : goal.overflow_add-count
overflow_add-count c =
    let n = c.loop-step.invariant.few in
    let more = c.sites_at-count.ensures.few in
    let all = c.requires in
    let lt = c.loop-step-test.true in
    omega (arith, n, more, all, lt)

pub loop-step-preserved : goal.loop-step-preserved
loop-step-preserved c =
    let n = c.loop-step.invariant.few in
    let more = c.sites_at-count.ensures.few in
    record {
      few = omega (arith, n, more);
      counted = λ key. step_law.count_more key c.args.steps.now c.loop-step.step-index c.step-item.result c.loop-step-test.true c.step-item.is c.loop-step.count c.sites_at-count.result (c.loop-step.invariant.counted key) (c.sites_at-count.ensures.is key);
    }

pub returns : goal.returns
returns c key = c.loop-step.invariant.counted key ∙ ap (λ (l : List raw_step.Step). length (sites_in (steps_in key l))) (take_all c.loop-step.step-index c.args.steps.now c.loop-step-test.false)
