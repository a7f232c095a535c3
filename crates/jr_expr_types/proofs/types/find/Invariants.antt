use Rattle.std.proofs.Common.{◌≡◌, drop, map}
use Rattle.jr_expr_types.specs.SlotView.{slot_of}
use Rattle.jr_expr_types.specs.Slots as pure
use Rattle.jr_expr_types.proofs.types.find.Given as goal

-- the steps that are left lead to where all do
abbrev pub invariant-loop-step : goal.invariant-loop-step
invariant-loop-step l = pure.find (map (slot_of l.types) l.slots) l.here (drop l.step-index l.steps) ≡ pure.find (map (slot_of l.types) l.slots) l.end l.steps
