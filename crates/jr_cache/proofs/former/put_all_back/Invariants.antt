use Rattle.std.proofs.Common.{◌≡◌}
use Rattle.jr_cache.specs.HadBack.{with_replaced}
use Rattle.jr_cache.proofs.former.put_all_back.Given as goal

abbrev pub invariant-loop-bounds : goal.invariant-loop-bounds
invariant-loop-bounds l = with_replaced l.replaced.items l.bounds.items ≡ with_replaced l.fn.replaced.items l.fn.bounds.items

abbrev pub decreases-loop-bounds : goal.decreases-loop-bounds
decreases-loop-bounds l = l.replaced.len
