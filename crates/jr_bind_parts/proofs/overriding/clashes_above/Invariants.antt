use Rattle.std.specs.Prelude.{◌≡◌, length}
use Rattle.jr_table.specs.Entries.{entries_of}
use Rattle.jr_table.specs.Chains.{chain_of}
use Rattle.jr_table.specs.RowView.{row_of}
use Rattle.jr_table.specs.Wanted.{passes}
use Rattle.jr_bind_parts.specs.OverrideClashes.{clashes_above}
use Rattle.jr_bind_parts.proofs.overriding.clashes_above.Given as goal

abbrev pub invariant-loop-parent : goal.invariant-loop-parent
invariant-loop-parent l = clashes_above l.table (passes l.wanted) (row_of l.own) l.class ≡ clashes_above l.table (passes l.wanted) (row_of l.own) l.fn.class

abbrev pub decreases-loop-parent : goal.decreases-loop-parent
decreases-loop-parent l = length (chain_of (entries_of l.table) l.class)
