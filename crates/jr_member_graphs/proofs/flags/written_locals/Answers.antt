use Rattle.std.proofs.Common.{List, ◌∷◌, [], ◌++◌, take, ap, subst, ◌∙◌}
use Rattle.std.proofs.lemmas.List.{take_all}
use Rattle.jr_expr_sites.specs.declared.step.Step as raw_step
use Rattle.jr_expr_sites.specs.Steps.{sites_in}
use Rattle.jr_expr_sites.specs.StepView.{step_of, steps_in}
use Rattle.jr_cfg.proofs.StepLaws.{sites_more}
use Rattle.jr_member_graphs.specs.FlagRows.{MarksLocals}
use Rattle.jr_member_graphs.specs.NotesView.{written, noted}
use Rattle.jr_member_graphs.proofs.Writes.{written_append}
use Rattle.jr_member_graphs.proofs.FlagSteps.{marks_begin, marks_more}
use Rattle.jr_member_graphs.proofs.flags.written_locals.Goals as goal

pub loop-step-init : goal.loop-step-init
loop-step-init c key = marks_begin c.args.count c.in_ok-marks.marks.items (c.in_ok-marks.ensures.items_if_clones_equal (λ y h. h))

pub loop-step-preserved : goal.loop-step-preserved
loop-step-preserved c key =
    let i = c.loop-step.step-index in
    let steps = c.args.steps.now in
    let x = c.step-item.result in
    let before = sites_in (steps_in key (take i steps)) in
    let one = sites_in (step_of key x ∷ []) in
    let more = ap written (sites_more key steps i x c.loop-step-test.true c.step-item.is) ∙ written_append before one ∙ ap (λ (l : List _). noted key (take i steps) ++ l) (c.written_at.ensures key) in
    marks_more (noted key (take i steps)) _ _ c.args.count c.loop-step.marks.items c.mark.new.marks.items more (c.loop-step.invariant key) c.mark.ensures

pub returns : goal.returns
returns c key =
    subst (λ (l : List raw_step.Step). MarksLocals (noted key l) c.args.count c.loop-step.marks.items) (take_all c.loop-step.step-index c.args.steps.now c.loop-step-test.false) (c.loop-step.invariant key).told
