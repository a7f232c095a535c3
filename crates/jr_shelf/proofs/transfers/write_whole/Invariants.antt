use Rattle.std.proofs.Common.{◌≡◌}
use Rattle.jr_shelf.proofs.InPart.{Took}
use Rattle.jr_shelf.proofs.transfers.write_whole.Given as goal

-- the writer took what is gone from the rest, and none of its faults is counted yet
abbrev pub invariant-loop : goal.invariant-loop
invariant-loop g l = record {
  took : Took (g.W.Write.contents l.fn.to) (g.W.Write.contents l.to) l.bytes l.rest;
  unfailed : l.faults ≡ l.fn.faults;
}
