use Rattle.std.proofs.Common.{◌≡◌, ◌++◌}
use Rattle.jr_expr_types.specs.Trees.{none, flats}
use Rattle.jr_expr_types.specs.TypedTrees.{put_leaves}
use Rattle.jr_bind_parts.proofs.fronts.put_row.Given as goal

abbrev pub invariant-loop-leaf : goal.invariant-loop-leaf
invariant-loop-leaf l = l.types ≡ l.fn.types ++ flats (put_leaves l._leaf none)
