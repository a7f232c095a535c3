use Rattle.std.proofs.Common.{◌≡◌, ◌≤◌, length}
use Rattle.std.specs.Io.KnownBytes.{Consumes}
use Rattle.jr_shelf.specs.declared.shelves.TheConstants.{MAX_FILE}
use Rattle.jr_shelf.proofs.transfers.read_whole.Given as goal

-- the reader gave the bytes that were read so far, and none of its faults is counted yet
abbrev pub invariant-loop : goal.invariant-loop
invariant-loop g l = record {
  within : length l.bytes.items ≤ MAX_FILE;
  unfailed : l.faults ≡ l.fn.faults;
  given : Consumes (g.R.Read.remaining l.fn.from) (g.R.Read.remaining l.from) l.bytes.items;
}
