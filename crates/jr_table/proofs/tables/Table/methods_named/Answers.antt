use Rattle.jr_table.specs.Entries.{entries_of}
use Rattle.jr_table.proofs.InOrder.{sorted_is}
use Rattle.jr_table.proofs.tables.Table.methods_named.Goals as goal

pub returns : goal.returns
returns c = sorted_is (entries_of c.args.self.now) c.args.name.now c.args.class c.in_ok-numbers.numbers.items c.sort_unstable.new.self.items c.in_ok-numbers.ensures c.sort_unstable.ensures.permutation c.sort_unstable.ensures.sorted
