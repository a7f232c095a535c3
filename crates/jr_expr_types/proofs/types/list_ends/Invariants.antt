use Rattle.std.proofs.Common.{◌≡◌, ◌++◌, map}
use Rattle.jr_expr_types.specs.SlotView.{shape_of}
use Rattle.jr_expr_types.specs.Slots.{skip}
use Rattle.jr_expr_types.specs.PartEnds.{skips}
use Rattle.jr_expr_types.proofs.types.list_ends.Given as goal

abbrev pub invariant-loop-listed : goal.invariant-loop-listed
invariant-loop-listed l = record {
  listed : l.ends.items ≡ l.fn.ends.items ++ skips (map shape_of l.slots) l._listed l.end;
  left : l.left ≡ skip (map shape_of l.slots) l._listed l.end;
}
