use Rattle.std.proofs.Common.{◌≡◌, length, map, IsTrue}
use Rattle.std.specs.List.{list_all}
use Rattle.std.specs.Ordering.{nat_cmp}
use Rattle.std.specs.Cmp.Lexicographic.{slice_cmp}
use Rattle.std.specs.FinMap.{find}
use Rattle.std.specs.VecDeque.Iter.{deque_iter_rest}
use Rattle.jr_shelf.specs.StoreLog.{entry_in, lies_in}
use Rattle.jr_shelf.proofs.store_logs.find_stored.Given as goal

-- the newest store of the name is among those that are left
abbrev pub invariant-loop-stored : goal.invariant-loop-stored
invariant-loop-stored l = record {
  lie : IsTrue (list_all (lies_in (length l.pool)) (deque_iter_rest l.stored-iterator));
  left : find (slice_cmp nat_cmp) l.name (map (entry_in l.pool) l.entries.items) ≡ find (slice_cmp nat_cmp) l.name (map (entry_in l.pool) (deque_iter_rest l.stored-iterator));
}
