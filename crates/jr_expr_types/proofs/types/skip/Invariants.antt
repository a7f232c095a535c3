use Rattle.std.proofs.Common.{◌≡◌, ◌-◌, map}
use Rattle.jr_expr_types.specs.SlotView.{shape_of}
use Rattle.jr_expr_types.specs.Slots as pure
use Rattle.jr_expr_types.proofs.types.skip.Given as goal

-- what is left to skip leads to where all does
abbrev pub invariant-loop-skipped : goal.invariant-loop-skipped
invariant-loop-skipped l = pure.skip (map shape_of l.slots) (l.count - l._skipped) l.left ≡ pure.skip (map shape_of l.slots) l.count l.end
