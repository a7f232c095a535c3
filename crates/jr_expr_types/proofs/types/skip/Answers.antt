use Rattle.std.proofs.Common.{◌-◌, map, ap, ◌∙◌}
use Rattle.jr_expr_types.specs.SlotView.{shape_of}
use Rattle.jr_expr_types.proofs.StepLaws.{next_skip, skip_done}
use Rattle.jr_expr_types.proofs.types.skip.Goals as goal

pub loop-skipped-preserved : goal.loop-skipped-preserved
loop-skipped-preserved c =
    next_skip (map shape_of c.args.slots.now) c.args.count c.loop-skipped._skipped c.loop-skipped.left c.saturating_sub-left.result _ c.loop-skipped-test.true
    (c.saturating_sub-left.ensures ∙ ap (λ n. c.loop-skipped.left - n) c.last_size.ensures) c.loop-skipped.invariant

pub returns : goal.returns
returns c = skip_done (map shape_of c.args.slots.now) c.args.count c.loop-skipped._skipped c.loop-skipped.left _ c.loop-skipped-test.false c.loop-skipped.invariant
