use Rattle.std.specs.Prelude.{◌≡◌, map, take}
use Rattle.jr_table.specs.KeyView.{method_key_of}
use Rattle.jr_table.proofs.Gathered.{keys_at}
use Rattle.jr_table.proofs.tables.Table.method_members.Given as goal

abbrev pub invariant-loop-number : goal.invariant-loop-number
invariant-loop-number l = map method_key_of l.keys.items ≡ keys_at l.self (take l.number-index l.number-items)
