use Rattle.std.proofs.Common.{◌≡◌, ◌≤◌, ◌+◌, map}
use Rattle.jr_members.specs.PartView.{written_of}
use Rattle.jr_mentions.specs.ApartView.{names_in}
use Rattle.jr_cache.specs.HadBack.{with_replaced}
use Rattle.jr_cache.proofs.OneByOne.{AreReboundTo}
use Rattle.jr_cache.proofs.rebinding.rebind_each.Given as goal

abbrev pub invariant-loop-number : goal.invariant-loop-number
invariant-loop-number g l = AreReboundTo l.program.table.now l.program.tokens.now (names_in l.names) l.program.stays.now (map written_of l.program.written.now) l.number l.initial.exchange.bounds.items l.exchange.bounds.items
    × ((l.initial.steps ≤ l.steps) × (l.steps ≤ l.initial.steps + l.number))
    × (with_replaced l.exchange.replaced.items l.exchange.bounds.items ≡ with_replaced l.initial.exchange.replaced.items l.initial.exchange.bounds.items)
