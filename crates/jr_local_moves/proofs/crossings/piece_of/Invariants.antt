use Rattle.jr_local_moves.proofs.Taking.{IsTaken}
use Rattle.jr_local_moves.proofs.crossings.piece_of.Given as goal

abbrev pub invariant-loop-placed : goal.invariant-loop-placed
invariant-loop-placed l = record {
  sites : IsTaken (λ s. s.site) l.fn.footprint.items l.sites.items l.placed-iterator.rest.items;
  places : IsTaken (λ s. s.at) l.fn.footprint.items l.places.items l.placed-iterator.rest.items;
}
