use Rattle.std.proofs.Common.{map, sym, ◌∙◌}
use Rattle.std.proofs.lemmas.List.{drop_more}
use Rattle.jr_expr_types.specs.SlotView.{slot_of}
use Rattle.jr_expr_types.proofs.Kept.{part_same}
use Rattle.jr_expr_types.proofs.StepLaws.{next_found, none_found, all_found}
use Rattle.jr_expr_types.proofs.types.find.Goals as goal

pub returns-in_default : goal.returns-in_default
returns-in_default c =
    none_found (map (slot_of c.args.types.now) c.args.slots.now) c.args.steps.now c.loop-step.step-index c.loop-step.here _ _ (drop_more c.args.steps.now c.loop-step.step-index _ c.loop-step-test.true) (part_same c.args.types.now c.args.slots.now _ _ ∙ sym c.part_end.ensures ∙ c.in_default.is) c.loop-step.invariant

pub loop-step-preserved : goal.loop-step-preserved
loop-step-preserved c =
    next_found (map (slot_of c.args.types.now) c.args.slots.now) c.args.steps.now c.loop-step.step-index c.loop-step.here _ _ c.in-Some.below (drop_more c.args.steps.now c.loop-step.step-index _ c.loop-step-test.true) (part_same c.args.types.now c.args.slots.now _ _ ∙ sym c.part_end.ensures ∙ c.in-Some.is) c.loop-step.invariant

pub returns : goal.returns
returns c = c.last_type.ensures ∙ all_found (map (slot_of c.args.types.now) c.args.slots.now) c.args.steps.now c.loop-step.step-index c.loop-step.here _ c.loop-step-test.false c.loop-step.invariant
