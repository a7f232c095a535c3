use Rattle.std.proofs.Common.{List, [], ◌∷◌, ◌++◌, map, take, ap, sym, ◌∙◌}
use Rattle.std.proofs.lemmas.List.{map-append, map_more, take_all}
use Rattle.jr_expr_sites.specs.declared.step.Step as raw_step
use Rattle.jr_expr_sites.specs.Steps.{shape_of}
use Rattle.jr_expr_sites.specs.StepView.{step_of, steps_in}
use Rattle.jr_cfg.proofs.member_graph.shapes.Goals as goal

pub loop-step-init : goal.loop-step-init
loop-step-init c key = c.new-list.ensures.items

pub loop-step-preserved : goal.loop-step-preserved
loop-step-preserved c key =
    let i = c.loop-step.step-index in
    let steps = c.args.steps.now in
    let item = c.step-item.result in
    c.in_ok-push.ensures.items ∙ (λ k. c.loop-step.invariant key k ++ ((c.shape_of.ensures key ∙ ap (λ s. shape_of (step_of key s)) c.step-item.is) k) ∷ [])
    ∙ sym (map-append shape_of (steps_in key (take i steps)) _) ∙ ap (map shape_of) (sym (map_more (step_of key) steps i item c.loop-step-test.true))

pub returns : goal.returns
returns c key = c.loop-step.invariant key ∙ ap (λ (l : List raw_step.Step). map shape_of (steps_in key l)) (take_all c.loop-step.step-index c.args.steps.now c.loop-step-test.false)
