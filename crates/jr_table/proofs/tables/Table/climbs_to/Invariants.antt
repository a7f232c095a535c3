use Rattle.std.specs.Prelude.{◌↔◌, length}
use Rattle.jr_table.specs.Entries.{entries_of}
use Rattle.jr_table.specs.Chains.{IsSubclassAt, chain_of}
use Rattle.jr_table.proofs.tables.Table.climbs_to.Given as goal

abbrev pub invariant-loop-class : goal.invariant-loop-class
invariant-loop-class l = IsSubclassAt (entries_of l.self) l.class l.sup ↔ IsSubclassAt (entries_of l.self) l.fn.sub l.sup

abbrev pub decreases-loop-class : goal.decreases-loop-class
decreases-loop-class l = length (chain_of (entries_of l.self) l.class)
