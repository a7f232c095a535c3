use Rattle.std.specs.Prelude.{◌≡◌, length}
use Rattle.jr_table.specs.Entries.{entries_of}
use Rattle.jr_table.specs.Chains.{chain_of}
use Rattle.jr_table.specs.Looking.{nearest}
use Rattle.jr_table.specs.Wanted.{passes}
use Rattle.jr_table.proofs.tables.Table.nearest.Given as goal

abbrev pub invariant-loop-number : goal.invariant-loop-number
invariant-loop-number l = nearest (entries_of l.self) (passes l.wanted) l.class ≡ nearest (entries_of l.self) (passes l.wanted) l.fn.class

abbrev pub decreases-loop-number : goal.decreases-loop-number
decreases-loop-number l = length (chain_of (entries_of l.self) l.class)
