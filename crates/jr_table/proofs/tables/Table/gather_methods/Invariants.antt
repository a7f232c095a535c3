use Rattle.std.specs.Prelude.{length}
use Rattle.jr_table.specs.Entries.{entries_of}
use Rattle.jr_table.specs.Chains.{chain_of}
use Rattle.jr_table.specs.Gathering.{is_met, Gathers}
use Rattle.jr_table.proofs.tables.Table.gather_methods.Given as goal

abbrev pub invariant-loop-gathering : goal.invariant-loop-gathering
invariant-loop-gathering l = Gathers (entries_of l.self) l.name l.class l.at (is_met l.gathering.met) l.gathering.numbers.items

abbrev pub decreases-loop-gathering : goal.decreases-loop-gathering
decreases-loop-gathering l = length (chain_of (entries_of l.self) l.at)
