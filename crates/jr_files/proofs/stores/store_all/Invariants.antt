use Rattle.std.proofs.Common.{◌≡◌, OnSome, map, take}
use Rattle.jr_shelf.specs.Counts.{RoseBy}
use Rattle.jr_files.specs.Storing.{with_stores}
use Rattle.jr_files.specs.Views.{store_of}
use Rattle.jr_files.proofs.stores.store_all.Given as goal

-- the stores so far are whole, and each was served
abbrev pub invariant-loop-number : goal.invariant-loop-number
invariant-loop-number g l = record {
  held : g.S.Shelf.holds l.shelf ≡ with_stores (g.S.Shelf.holds l.fn.shelf) (map store_of (take l.number l.stores));
  missed : OnSome (g.S.Shelf.holds l.fn.shelf) (g.S.Shelf.missed l.shelf ≡ g.S.Shelf.missed l.fn.shelf);
  faults : g.S.Shelf.faults l.shelf ≡ g.S.Shelf.faults l.fn.shelf;
  served : RoseBy l.number (g.S.Shelf.served l.fn.shelf) (g.S.Shelf.served l.shelf);
}
