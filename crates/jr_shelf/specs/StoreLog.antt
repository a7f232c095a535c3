-- Names and bytes that were stored, kept one after the other in one pool of bytes.
use Rattle.std.specs.Prelude.{ℕ, ◌&&◌, Bool, List, nat_le}
use Rattle.std.specs.List.{slice_range}
use Rattle.jr_shelf.specs.declared.store_logs.Stored.{Stored}

-- the name and the bytes that this store put into the pool
abbrev pub entry_in : List ℕ → Stored → List ℕ × List ℕ
entry_in pool stored =
    (slice_range pool stored.start stored.middle, slice_range pool stored.middle stored.end)

-- whether they stand in a pool of this length
abbrev pub lies_in : ℕ → Stored → Bool
lies_in len stored =
    nat_le stored.start stored.middle && nat_le stored.middle stored.end && nat_le stored.end len
